-- A pair with the value that stands there is the route of that pair.
use Rattle.std.proofs.Common.{◌≡◌, ℕ, List, Option, Some, None, refl, sym, ap, ◌∙◌}
use Rattle.std.specs.Prelude.{option_map}
use Rattle.radix_tree.specs.Table.{entry_at}
use Rattle.radix_tree.specs.declared.entry.Entry.{Entry}
use Rattle.radix_tree.proofs.MemberLemmas.{entry_at_is_member}
use Rattle.route_entries.specs.declared.route.Route.{Route}

made_again : (key rank : ℕ) (table : List (Entry Route)) (o : Option (Entry Route)) → entry_at key rank table ≡ o
    → option_map (λ v. record { key = key; rank = rank; value = v }) (option_map (λ e. e.value) o) ≡ o
made_again key rank table None h = refl
made_again key rank table (Some e) h =
    let pair = (entry_at_is_member key rank table e h).1 in
    ap Some (λ i. record { key = sym pair.0 i; rank = sym pair.1 i; value = e.value })

-- what is taken out by its pair is the route that stood there
pub taken_is : (key rank : ℕ) (table : List (Entry Route)) (value : Option Route)
    → value ≡ option_map (λ e. e.value) (entry_at key rank table)
    → option_map (λ v. record { key = key; rank = rank; value = v }) value ≡ entry_at key rank table
taken_is key rank table value h =
    ap (λ (o : Option Route). option_map (λ v. record { key = key; rank = rank; value = v }) o) h
    ∙ made_again key rank table (entry_at key rank table) refl

-- where none stood, the table is as it was
nothing : (o : Option (Entry Route)) → None ≡ option_map (λ e. e.value) o → o ≡ None
nothing None h = refl
nothing (Some e) h = absurd (cc)

pub none_taken : (key rank : ℕ) (table : List (Entry Route)) → None ≡ option_map (λ e. e.value) (entry_at key rank table)
    → entry_at key rank table ≡ None
none_taken key rank table h = nothing (entry_at key rank table) h
