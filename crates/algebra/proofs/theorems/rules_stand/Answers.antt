use Rattle.algebra.proofs.Complete.{sound_and_complete}
use Rattle.algebra.proofs.Legal.{chain_legal}
use Rattle.algebra.proofs.Meanings.{chain_means}
use Rattle.algebra.proofs.Sizes.{step_size, chain_size}
use Rattle.algebra.proofs.theorems.rules_stand.Goals as goal

pub returns : goal.returns
returns c = record { meaning = sound_and_complete; chain = chain_means; step = step_size; count = chain_size; legal = chain_legal }
