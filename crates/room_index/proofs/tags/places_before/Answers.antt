use Rattle.std.proofs.Common.{◌≡◌, ℕ, ◌+◌, ◌≤◌, ◌==◌, ◌++◌, map, not, List, eqb, length, sym, ap, ◌∙◌, arith, refl, w8}
use Rattle.std.specs.List.{prefix_len, range_with_len}
use lib.Count.{count_trailing_zeros}
use lib.Lanes.{chunk, mask_l, pick_l}
use Rattle.std.proofs.lemmas.List.{length-append}
use Rattle.std.proofs.lemmas.Simd.{length-chunk, bitmask_splat, leading_from_mask_l, pick_l_whole, trailing_mask_l}
use Rattle.room_index.proofs.tags.places_before.Goals as goal

-- the lanes of one vector are the places of two buckets
abbrev lanes : List ℕ → ℕ → ℕ → List ℕ
lanes tags first second = pick_l 0 (chunk first 8 tags ++ chunk second 8 tags) (range_with_len 0 16)

lanes_whole : (tags : List ℕ) (first second : ℕ) → first + 8 ≤ length tags → second + 8 ≤ length tags
    → lanes tags first second ≡ chunk first 8 tags ++ chunk second 8 tags
lanes_whole tags first second lower upper = pick_l_whole 0 (chunk first 8 tags ++ chunk second 8 tags) 16
    (omega (arith, length-append (chunk first 8 tags) (chunk second 8 tags), length-chunk first 8 tags lower, length-chunk second 8 tags upper))

lanes_before : (tags : List ℕ) (first second tag : ℕ) → first + 8 ≤ length tags → second + 8 ≤ length tags
    → prefix_len (λ t. not (eqb t tag)) (lanes tags first second) ≡ prefix_len (λ t. not (t == tag)) (chunk first 8 tags ++ chunk second 8 tags)
lanes_before tags first second tag lower upper = ap (prefix_len (λ t. not (eqb t tag))) (lanes_whole tags first second lower upper)

lanes_hits : (tags : List ℕ) (first second tag : ℕ) → first + 8 ≤ length tags → second + 8 ≤ length tags
    → mask_l (map (λ t. eqb t tag) (lanes tags first second)) ≡ mask_l (map (λ t. t == tag) (chunk first 8 tags ++ chunk second 8 tags))
lanes_hits tags first second tag lower upper = ap (λ ts. mask_l (map (λ t. eqb t tag) ts)) (lanes_whole tags first second lower upper)

pub returns-then-hits-eq0-clause-before : goal.returns-then-hits-eq0-clause-before
returns-then-hits-eq0-clause-before c =
    let both = lanes c.args.tags.now c.args.first c.args.second in
    let hits = bitmask_splat w8 eqb both 16 c.args.tag refl (omega arith) in
    sym (leading_from_mask_l (λ t. eqb t c.args.tag) both (sym hits ∙ c.if-hits-eq0.true))
    ∙ lanes_before c.args.tags.now c.args.first c.args.second c.args.tag c.requires.first c.requires.second

pub returns-else-hits-eq0-clause-before : goal.returns-else-hits-eq0-clause-before
returns-else-hits-eq0-clause-before c =
    let both = lanes c.args.tags.now c.args.first c.args.second in
    let hits = bitmask_splat w8 eqb both 16 c.args.tag refl (omega arith) in
    ap (count_trailing_zeros 64) hits ∙ trailing_mask_l (λ t. eqb t c.args.tag) 64 both (omega arith) (omega arith)
    ∙ lanes_before c.args.tags.now c.args.first c.args.second c.args.tag c.requires.first c.requires.second

pub returns-then-hits-eq0-clause-hits : goal.returns-then-hits-eq0-clause-hits
returns-then-hits-eq0-clause-hits c = bitmask_splat w8 eqb (lanes c.args.tags.now c.args.first c.args.second) 16 c.args.tag refl (omega arith)
    ∙ lanes_hits c.args.tags.now c.args.first c.args.second c.args.tag c.requires.first c.requires.second

pub returns-else-hits-eq0-clause-hits : goal.returns-else-hits-eq0-clause-hits
returns-else-hits-eq0-clause-hits c = bitmask_splat w8 eqb (lanes c.args.tags.now c.args.first c.args.second) 16 c.args.tag refl (omega arith)
    ∙ lanes_hits c.args.tags.now c.args.first c.args.second c.args.tag c.requires.first c.requires.second
