use Rattle.algebra.proofs.OtherSides.{other_sides}
use Rattle.algebra.proofs.Rewrite.{rewrites_there, rewrites_nowhere, rewrites_step, steps_rewrite, rewrite_size}
use Rattle.algebra.proofs.theorems.rewriting_stands.Goals as goal

pub returns : goal.returns
returns c = record { sides = other_sides; there = rewrites_there; nowhere = rewrites_nowhere; step = rewrites_step; every = steps_rewrite; size = rewrite_size }
