-- `coding::wrong_bit` meets its contract, by one test over all that A, B and C can say, of what the check made of the code itself.
use mathlib.Core.Bool.{Bool, true, false, ◌&&◌}
use Prim.Native.Nat.{ℕ, ◌*◌, ◌<◌}
use borrow.Author.Rules.{rules}
use borrow.Fn.Function.{res_v}
use lib.Dec.{T, eqb, eqb→eq, lit<}
use mir.Val.{bool_byte}
use Rattle.laws.specs.Digits.{weight}
use Rattle.laws.proofs.Bools.{both_left, both_right}
use Rattle.coding.specs.Hamming.{wrong_bit}
use Rattle.coding.proofs.wrong_bit.Reads as reads
use Rattle.coding.proofs.wrong_bit.Lts as lts
use Rattle.coding.proofs.wrong_bit.Goals as goal

-- ---- a test tried whether a parity test holds or fails

abbrev either : (Bool → Bool) → Bool
either test = test true && test false

at : (test : Bool → Bool) → T (either test) → (holds : Bool) → T (test holds)
at test t true = both_left (test true) (test false) t
at test t false = both_right (test true) (test false) t

-- ---- the code

-- all bits, or none
small : (holds : Bool) → bool_byte holds * 0xFF < 0x100
small true = lit< tt
small false = lit< tt

-- what the code returns: `m24` is its last place
abbrev returned : Bool → Bool → Bool → ℕ
returned a b c = res_v lts.r tt (lts.m24 reads.Pre reads.Post (record { a = a; b = b; c = c })).0

abbrev right : Bool → Bool → Bool → Bool
right a b c = eqb (returned a b c) (weight (wrong_bit a b c))

all_right : T (either (λ a. either (λ b. either (right a b))))
unfolding weight wrong_bit
all_right = tt

pub overflow_mul-result : goal.overflow_mul-result
overflow_mul-result c = search (rules, small)

pub overflow_mul-result-2 : goal.overflow_mul-result-2
overflow_mul-result-2 c = search (rules, small)

pub overflow_mul-result-3 : goal.overflow_mul-result-3
overflow_mul-result-3 c = search (rules, small)

pub returns : goal.returns
returns c =
    let a = c.args.a in
    let b = c.args.b in
    eqb→eq _ _ (at (right a b) (at (λ y. either (right a y)) (at (λ x. either (λ y. either (right x y))) all_right a) b) c.args.c)
