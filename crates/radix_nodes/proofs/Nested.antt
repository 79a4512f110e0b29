-- A room that is lodged, and taken out again once others have come and gone.
use Rattle.std.proofs.Common.{◌≡◌, ℕ, Some, None, sym, ap, ◌∙◌}
use Rattle.std.specs.Ordering.{nat_cmp}
use Rattle.std.specs.FinMap.{FinMap, get, remove}
use Rattle.radix_nodes.specs.Keeping.{Keeps}
use Rattle.radix_nodes.specs.Rooms.{Seen, put_room, put_links}
use Rattle.radix_nodes.specs.declared.id.Id.{Id}
use Rattle.radix_nodes.specs.declared.links.Links.{Links}
use Rattle.radix_nodes.proofs.Callers.{Has-lodged, Has-put, Has-written, Has-removed}
use Rattle.radix_nodes.specs.Naming.{number_of}

none_some : {A : Type 0} {x : A} → None ≡ Some x → ⊥
none_some e = cc

pub nested : {V : Type 0} (m inner : FinMap nat_cmp (Seen V)) (id : Id) (room : ℕ) (value : V) (blank links : Links) → (number_of id) ≡ room → get m room ≡ None
    → Keeps (put_links (put_room m id value blank) id links) inner → Keeps m (remove inner (number_of id))
nested m inner id room value blank links is none keeps i h =
    let free : get m (number_of id) ≡ None = ap (get m) is ∙ none in
    Has-removed inner i (number_of id) (λ same. none_some (sym free ∙ ap (get m) (sym same) ∙ h.at))
    (keeps i (Has-written _ i id links (Has-lodged m id value blank) (Has-put m i id value blank free h)))
