-- The addresses of a converted message, in a third layout.
use Rattle.std.proofs.Common.{◌≡◌, ℕ, ◌≤◌, true, false, List, ◌++◌, length, refl, ap, arith}
use Rattle.route_layouts.specs.Addresses.{address_as, fits, fitted, padded, settled}
use Rattle.route_layouts.specs.Walk.{addrs_before, bytes_before, fit_before, has_room_before}
use Rattle.route_layouts.specs.Conversion.{addresses_fit, addresses_in, addrs_in, change_of, differ, has_room, its_header, numbers_in_header, settled_in}
use Rattle.route_layouts.specs.Layouts.{IsLayout}
use Rattle.route_layouts.specs.declared.change.Change.{Change}
use Rattle.route_layouts.specs.declared.layout.Layout.{Layout}
use Rattle.route_layouts.specs.declared.order.Order.{Order}
use Rattle.route_layouts.specs.declared.order.Order.TheVariants as order
use Rattle.route_layouts.proofs.Onward.{addrs_on, bytes_on, fit_on, room_on}
use Rattle.route_layouts.proofs.Settled.{IsAgain, IsWhole, fits_once_more, once_more, settled_back}

differ_both : (a b : Order) → differ a b ≡ differ b a
differ_both order.Big order.Big = refl
differ_both order.Big order.Little = refl
differ_both order.Little order.Big = refl
differ_both order.Little order.Little = refl

differ_self : (a : Order) → differ a a ≡ false
differ_self order.Big = refl
differ_self order.Little = refl

eight : 8 ≤ 8
eight = omega arith

module _ (from to : Layout) (m head : List ℕ) (is : IsLayout to) (room : has_room from to m ≡ true) where
  abbrev c : Change
  c = change_of from to

  abbrev addrs : ℕ
  addrs = (numbers_in_header from m).addrs

  abbrev start : ℕ
  start = (its_header from m).size

  abbrev new : List ℕ
  new = head ++ addresses_in from to m

  -- they are read in it, whatever the third layout
  pub room_third : (third : Layout) → has_room_before (change_of to third) new (addrs_in from to m) (length head) 8 ≡ true
  room_third third = room_on c (change_of to third) refl m addrs start head is.least_word room 8 eight

  pub addrs_third : (third : Layout) → addrs_before (change_of to third) new (addrs_in from to m) (length head) 8 ≡ addrs_in from to m
  addrs_third third = addrs_on c (change_of to third) refl m addrs start head is.least_word room 8 eight

  abbrev back : Change
  back = change_of to from

  back_one : (k : ℕ) (s : List ℕ) → IsWhole s → address_as back k (fitted c k s) ≡ padded from.word (settled c back k s)
  back_one k s whole = ap (padded from.word) (settled_back c back k s (differ_both to.order from.order) (omega (arith, whole)))

  pub bytes_back : bytes_before back new (addrs_in from to m) (length head) 8 ≡ settled_in from to m
  bytes_back = bytes_on c back refl m addrs start head is.least_word room (λ k s. padded from.word (settled c back k s)) back_one 8 eight

  abbrev again : Change
  again = change_of to to

  is_again : IsAgain c again
  is_again = record { swaps = differ_self to.order; most_link = refl; least_mask = refl }

  again_one : (k : ℕ) (s : List ℕ) → IsWhole s → address_as again k (fitted c k s) ≡ address_as c k s
  again_one k s whole = ap (padded to.word) (once_more c again k s is_again whole)

  pub bytes_again : bytes_before again new (addrs_in from to m) (length head) 8 ≡ addresses_in from to m
  bytes_again = bytes_on c again refl m addrs start head is.least_word room (address_as c) again_one 8 eight

  fit_one : (k : ℕ) (s : List ℕ) → IsWhole s → fits c k s ≡ true → fits again k (fitted c k s) ≡ true
  fit_one k s whole = fits_once_more c again k s is_again whole

  pub fit_again : addresses_fit from to m ≡ true → fit_before again new (addrs_in from to m) (length head) 8 ≡ true
  fit_again fit = fit_on c again refl m addrs start head is.least_word room fit_one 8 eight fit
