-- That a text is its pieces, each of which ends where it is whole first.
use Rattle.std.proofs.Common.{◌≡◌, ◌⊎◌, ℕ, true, false, cond, List, [], ◌∷◌, ◌++◌, refl, sym, ap, ◌∙◌, append_assoc, append-nil, inl, inr, drop, slice_index}
use Rattle.std.specs.Prelude.{flat_map}
use Rattle.std.specs.List.{All}
use Rattle.std.proofs.lemmas.List.Elements.{All-cons, All-nil}
use Rattle.conv_main.specs.Pieces.{IsBegun, IsPiece, TextsAreCut, begun_piece, is_whole, whole_pieces}
use Rattle.conv_main.specs.declared.way.Way.{Way}

-- a front of a list with an element behind it is all of that, or a front of the list
front_of : (front rest begun : List ℕ) (b : ℕ) → begun ++ b ∷ [] ≡ front ++ rest → (rest ≡ []) ⊎ ((left : List ℕ) × (begun ≡ front ++ left))
front_of [] rest begun b is = inr (begun, refl)
front_of (f ∷ []) rest [] b is = inl (sym (ap (drop 1) is))
front_of (f ∷ g ∷ fs) rest [] b is = absurd cc
front_of (f ∷ fs) rest (x ∷ xs) b is =
    let head : x ≡ f = ap (λ l. slice_index l 0) is in
    elim (front_of fs rest xs b (ap (drop 1) is)) [
      | inl none ↦ inl none
      | inr more ↦ inr (more.0, ap (λ l. x ∷ l) more.1 ∙ ap (λ y. y ∷ (fs ++ more.0)) head)
    ]

none_begun : (w : Way) → IsBegun w []
none_begun w [] rest is some = absurd (some refl)
none_begun w (f ∷ fs) rest is some = absurd cc

-- a byte that ends no piece
still_begun : (w : Way) (begun : List ℕ) (b : ℕ) → IsBegun w begun → is_whole w (begun ++ b ∷ []) ≡ false → IsBegun w (begun ++ b ∷ [])
still_begun w begun b before not_whole front rest is some = elim (front_of front rest begun b is) [
  | inl none ↦ ap (is_whole w) (sym (is ∙ ap (λ l. front ++ l) none ∙ append-nil front)) ∙ not_whole
  | inr more ↦ before front more.0 more.1 some
]

-- and one that does
a_piece : (w : Way) (begun : List ℕ) (b : ℕ) → IsBegun w begun → is_whole w (begun ++ b ∷ []) ≡ true → IsPiece w (begun ++ b ∷ [])
a_piece w begun b before whole = record {
  whole = whole;
  first = λ front rest is some more. elim (front_of front rest begun b is) [
    | inl none ↦ absurd (more none)
    | inr left ↦ before front left.0 left.1 some
  ];
}

pieces_are : (w : Way) (begun text : List ℕ) → IsBegun w begun → All (IsPiece w) (whole_pieces w begun text)
pieces_are w begun [] before = All-nil (IsPiece w)
pieces_are w begun (b ∷ bs) before = elim (is_whole w (begun ++ b ∷ [])) as (λ t. is_whole w (begun ++ b ∷ []) ≡ t
    → All (IsPiece w) (cond t ((begun ++ b ∷ []) ∷ whole_pieces w [] bs) (whole_pieces w (begun ++ b ∷ []) bs))) [
      | true ↦ λ is. All-cons (IsPiece w) (begun ++ b ∷ []) (whole_pieces w [] bs) (a_piece w begun b before is) (pieces_are w [] bs (none_begun w))
      | false ↦ λ is. pieces_are w (begun ++ b ∷ []) bs (still_begun w begun b before is)
    ] refl

begun_is : (w : Way) (begun text : List ℕ) → IsBegun w begun → IsBegun w (begun_piece w begun text)
begun_is w begun [] before = before
begun_is w begun (b ∷ bs) before = elim (is_whole w (begun ++ b ∷ [])) as (λ t. is_whole w (begun ++ b ∷ []) ≡ t
    → IsBegun w (cond t (begun_piece w [] bs) (begun_piece w (begun ++ b ∷ []) bs))) [
      | true ↦ λ is. begun_is w [] bs (none_begun w)
      | false ↦ λ is. begun_is w (begun ++ b ∷ []) bs (still_begun w begun b before is)
    ] refl

all_is : (w : Way) (begun text : List ℕ) → flat_map (λ piece. piece) (whole_pieces w begun text) ++ begun_piece w begun text ≡ begun ++ text
all_is w begun [] = sym (append-nil begun)
all_is w begun (b ∷ bs) = elim (is_whole w (begun ++ b ∷ [])) as (λ t.
    flat_map (λ piece. piece) (cond t ((begun ++ b ∷ []) ∷ whole_pieces w [] bs) (whole_pieces w (begun ++ b ∷ []) bs))
    ++ cond t (begun_piece w [] bs) (begun_piece w (begun ++ b ∷ []) bs) ≡ begun ++ b ∷ bs) [
      | true ↦ append_assoc (begun ++ b ∷ []) (flat_map (λ piece. piece) (whole_pieces w [] bs)) (begun_piece w [] bs)
          ∙ ap (λ l. (begun ++ b ∷ []) ++ l) (all_is w [] bs) ∙ append_assoc begun (b ∷ []) bs
      | false ↦ all_is w (begun ++ b ∷ []) bs ∙ append_assoc begun (b ∷ []) bs
    ]

pub texts_are_cut : TextsAreCut
texts_are_cut w text = record {
  pieces = pieces_are w [] text (none_begun w);
  begun = begun_is w [] text (none_begun w);
  all = all_is w [] text;
}
