-- What is made of numbers that follow each other, as one more comes.
use Rattle.std.proofs.Common.{◌≡◌, ℕ, ◌+◌, ◌-◌, zero, suc, List, ◌++◌, flat_map, ap, ◌∙◌, sym, append_assoc, add-one, arith}
use Rattle.std.proofs.lemmas.List.{append-nil}
use Rattle.std.proofs.lemmas.List.Concat.{flat_map-append}
use Rattle.std.specs.List.{range_with_len}
use Rattle.route_core.specs.World.{World}
use Rattle.route_core.specs.declared.told.RouteTold.{RouteTold}
use Rattle.world_words.specs.Agreeing.{agreeing_line, of_rank, of_ranks}

one_behind : {X : Type 0} (f : ℕ → List X) (a n : ℕ)
    → flat_map f (range_with_len a (suc n)) ≡ flat_map f (range_with_len a n) ++ f (a + n)
one_behind f a zero = append-nil (f a) ∙ ap f (omega arith)
one_behind f a (suc n) =
    ap (λ (l : List _). f a ++ l) (one_behind f (a + 1) n)
    ∙ sym (append_assoc (f a) (flat_map f (range_with_len (a + 1) n)) (f ((a + 1) + n)))
    ∙ ap (λ (k : ℕ). (f a ++ flat_map f (range_with_len (a + 1) n)) ++ f k) (omega arith)

one_more : {X : Type 0} (f : ℕ → List X) (n : ℕ)
    → flat_map f (range_with_len 0 (n + 1)) ≡ flat_map f (range_with_len 0 n) ++ f n
one_more f n =
    ap (λ (k : ℕ). flat_map f (range_with_len 0 k)) (add-one n) ∙ one_behind f 0 n
    ∙ ap (λ (k : ℕ). flat_map f (range_with_len 0 n) ++ f k) (omega arith)

one_more_from_one : {X : Type 0} (f : ℕ → List X) (n : ℕ)
    → flat_map f (range_with_len 1 (n + 1)) ≡ flat_map f (range_with_len 1 n) ++ f (n + 1)
one_more_from_one f n =
    ap (λ (k : ℕ). flat_map f (range_with_len 1 k)) (add-one n) ∙ one_behind f 1 n
    ∙ ap (λ (k : ℕ). flat_map f (range_with_len 1 n) ++ f k) (omega arith)

-- a text, and another behind it
onto : (old a b one two : List ℕ) → one ≡ old ++ a → two ≡ one ++ b → two ≡ old ++ (a ++ b)
onto old a b one two e f = f ∙ ap (λ (l : List ℕ). l ++ b) e ∙ append_assoc old a b

-- what is put of one number more
pub put_more : (f : ℕ → List ℕ) (n : ℕ) (old one two : List ℕ) → one ≡ old ++ flat_map f (range_with_len 0 n)
    → two ≡ one ++ f n → two ≡ old ++ flat_map f (range_with_len 0 (n + 1))
put_more f n old one two e put =
    onto old (flat_map f (range_with_len 0 n)) (f n) one two e put ∙ ap (λ (l : List ℕ). old ++ l) (sym (one_more f n))

pub put_more_from_one : (f : ℕ → List ℕ) (n : ℕ) (old one two : List ℕ) → one ≡ old ++ flat_map f (range_with_len 1 n)
    → two ≡ one ++ f (n + 1) → two ≡ old ++ flat_map f (range_with_len 1 (n + 1))
put_more_from_one f n old one two e put =
    onto old (flat_map f (range_with_len 1 n)) (f (n + 1)) one two e put
    ∙ ap (λ (l : List ℕ). old ++ l) (sym (one_more_from_one f n))

ranks_more : (w : World) (address : ℕ) (routes : List RouteTold) (i : ℕ)
    → flat_map (agreeing_line w) (of_ranks address routes (i + 1))
    ≡ flat_map (agreeing_line w) (of_ranks address routes i) ++ flat_map (agreeing_line w) (of_rank address routes (33 - i))
ranks_more w address routes i =
    ap (λ (l : List RouteTold). flat_map (agreeing_line w) l) (one_more (λ k. of_rank address routes (33 - k)) i)
    ∙ flat_map-append (agreeing_line w) (of_ranks address routes i) (of_rank address routes (33 - i))

-- what is put of the routes of one rank more
pub put_rank_more : (w : World) (address : ℕ) (routes : List RouteTold) (i : ℕ) (old one two : List ℕ)
    → one ≡ old ++ flat_map (agreeing_line w) (of_ranks address routes i)
    → two ≡ one ++ flat_map (agreeing_line w) (of_rank address routes (33 - i))
    → two ≡ old ++ flat_map (agreeing_line w) (of_ranks address routes (i + 1))
put_rank_more w address routes i old one two e put =
    onto old (flat_map (agreeing_line w) (of_ranks address routes i)) (flat_map (agreeing_line w) (of_rank address routes (33 - i)))
    one two e put
    ∙ ap (λ (l : List ℕ). old ++ l) (sym (ranks_more w address routes i))
