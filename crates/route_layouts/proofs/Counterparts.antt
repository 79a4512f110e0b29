-- A message's counterpart, by what is converted and what is refused.
use Rattle.std.proofs.Common.{◌≡◌, ℕ, List, Ok, Err, refl, sym, ap}
use Rattle.route_layouts.specs.Conversion.{CounterpartIsComputed, IsConverted, IsRefused, counterpart}
use Rattle.route_layouts.specs.declared.fault.Fault.{Fault}
use Rattle.route_layouts.specs.declared.fault.Fault.TheVariants as fault
use Rattle.route_layouts.specs.declared.layout.Layout.{Layout}

is_ok : (from to : Layout) (m new : List ℕ) → IsConverted from to m new → counterpart from to m ≡ Ok new
is_ok from to m new h = rw (h.known, h.says_length, h.version, h.room, h.narrow) (ap (λ (x : List ℕ). Ok x) (sym h.bytes))

is_err : (from to : Layout) (m : List ℕ) (f : Fault) → IsRefused from to m f → counterpart from to m ≡ Err f
is_err from to m fault.Kind h = rw h refl
is_err from to m fault.Length h = rw (h.0, h.1) refl
is_err from to m fault.Version h = rw (h.0, h.1, h.2) refl
is_err from to m fault.Overrun h = rw (h.0, h.1, h.2, h.3) refl
is_err from to m fault.Wide h = rw (h.0, h.1, h.2, h.3, h.4) refl

pub counterparts : CounterpartIsComputed
counterparts = record { ok = is_ok; err = is_err }
