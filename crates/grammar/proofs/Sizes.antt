-- How many bytes a file has at most.
use Rattle.std.proofs.Common.{◌≡◌, ℕ, ◌+◌, ◌*◌, ◌^◌, ◌<◌, ◌≤◌, List, [], ◌∷◌, ◌++◌, length, decimal, arith}
use Rattle.std.proofs.lemmas.Grind.{common_steps}
use Rattle.std.proofs.lemmas.Fmt.{length-decimal-le}
use Rattle.std.proofs.lemmas.List.{length-append}
use Rattle.algebra.specs.declared.numbers.Numbers.{Numbers}
use Rattle.algebra.specs.Kind.{Words}
use Rattle.algebra.specs.Score.{Score, Score.rest, Score.primitive, Score.sequence, Score.parallel, nodes, primitives}
use Rattle.grammar.specs.Files.{field, fields, print, Grammatical, File, line, print_head, print_file}

pub length_field : (n : ℕ) → length (field n) ≡ length (decimal n) + 1
length_field n = length-append (decimal n) (44 ∷ [])

pub length_fields : (p : Numbers) → length (fields p) ≡ 3 + length (decimal p.first) + length (decimal p.second) + length (decimal p.third) + length (decimal p.fourth)
length_fields p = grind (arith, common_steps)

length_word : (n : ℕ) → n ≤ 4294967295 → length (decimal n) ≤ 10
length_word n h = length-decimal-le 10 n (omega arith) (omega arith) (omega arith)

-- a pair has 3 bytes beside its parts
pub length_pair : (a b : List ℕ) (sign : ℕ) → length (40 ∷ (a ++ (sign ∷ (b ++ (41 ∷ []))))) ≡ 3 + length a + length b
length_pair a b sign = omega (arith, length-append a (sign ∷ (b ++ (41 ∷ []))), length-append b (41 ∷ []))

-- rests of at most 8 digits, and numbers of 32 bits
abbrev pub Narrow : Score → Type 0
Narrow (rest d) = d < 10 ^ 8
Narrow (primitive p) = Words p
Narrow (sequence a b) = Narrow a × Narrow b
Narrow (parallel a b) = Narrow a × Narrow b

pub narrow : (s : Score) → Grammatical s → Narrow s
narrow (rest d) g = omega arith
narrow (primitive p) g = g
narrow (sequence a b) g = (narrow a g.0, narrow b g.1)
narrow (parallel a b) g = (narrow a g.0, narrow b g.1)

-- a rest has at most 9 bytes, and a primitive 44
pub length_print : (s : Score) → Narrow s → length (print s) ≤ 9 * nodes s + 35 * primitives s
length_print (rest d) g = omega (arith, length-decimal-le 8 d (omega arith) (omega arith) (omega arith))
length_print (primitive p) g =
    omega (arith, length_fields p, length_word p.first g.first, length_word p.second g.second, length_word p.third g.third, length_word p.fourth g.fourth)
length_print (sequence a b) g = omega (arith, length_pair (print a) (print b) 43, length_print a g.0, length_print b g.1)
length_print (parallel a b) g = omega (arith, length_pair (print a) (print b) 124, length_print a g.0, length_print b g.1)

pub length_line : (key w : List ℕ) → length (line key w) ≡ length key + length w + 1
length_line key w = omega (arith, length-append key (w ++ (10 ∷ [])), length-append w (10 ∷ []))

-- the head has 29 bytes beside the name and the numbers
pub length_head : (kind : List ℕ) (ticks count : ℕ) → length (print_head kind ticks count) ≡ 29 + length kind + length (decimal ticks) + length (decimal count)
length_head kind ticks count = grind (arith, common_steps)

pub length_printed : (f : File) → length (print_file f) ≡ length (print_head f.kind f.ticks f.count) + 16 + length (print f.body)
length_printed f = grind (arith, common_steps)

-- a file within the limits has at most 16,384 bytes
pub length_file : (f : File) → length f.kind ≤ 8 → f.ticks < 10 ^ 8 → f.count ≤ 170 → Narrow f.body → nodes f.body ≤ 1023 → primitives f.body ≤ 170 → length (print_file f) ≤ 16384
length_file f named ticks count body small few =
    omega (
      arith,
      length_printed f,
      length_head f.kind f.ticks f.count,
      length_print f.body body,
      length-decimal-le 8 f.ticks (omega arith) (omega arith) (omega arith),
      length-decimal-le 3 f.count (omega arith) (omega arith) (omega arith),
    )
