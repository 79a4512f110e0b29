-- The laws of references.
use Rattle.std.proofs.Common.{◌≡◌, ◌+◌, List, [], ◌∷◌, ◌++◌, refl, arith}
use Rattle.if_addrs.specs.Interfaces.{Address, Interface, added, attached, changed, gone, has_name, kind_of, new_address, routed}
use Rattle.if_addrs.specs.Numbered.{NumberedOnce}
use Rattle.if_addrs.specs.ReferenceLaws.{AddingLasts, AttachingLasts, Lasts, MarkingLasts, NoneNumbered, RemovingLasts}
use Rattle.if_addrs.specs.declared.reference.IfaRef.{IfaRef}
use Rattle.if_addrs.specs.declared.reference.IfaRef.TheVariants as ifa
use Rattle.if_addrs.proofs.Adding.{is_named}
use Rattle.if_addrs.proofs.Keeping.{Stays, keeps_by, same_by, stays_added, stays_attached, stays_changed, stays_self, told_same}
use Rattle.if_addrs.proofs.Numbers.{next_free, once_added, once_attached, once_same, told}

lasts_by : (old new : List Interface) → Stays old new → NumberedOnce new → Lasts old new
lasts_by old new s n = record { keeps = keeps_by old new s; same = same_by old new s; numbers = n }

pub attaching_lasts : AttachingLasts
attaching_lasts name kind type_number link is once =
    let i = attached name kind type_number link in
    lasts_by is (is ++ i ∷ []) (stays_attached is i refl) (once_attached is i once refl)

pub adding_lasts : AddingLasts
adding_lasts name address prefix cloning far is once free =
    let a = new_address (added is + 1) (kind_of name is) address prefix cloning far in
    lasts_by is _ (stays_added (has_name name) a is (next_free is once)) (once_added is (has_name name) a once (is_named name address far is free) refl)

changing_lasts : (f : Address → Address) → ((a : Address) → told (f a) ≡ told a) → (i : IfaRef) (is : List Interface) → NumberedOnce is → Lasts is (changed i f is)
changing_lasts f same (ifa.Inet k) is once =
    lasts_by is (changed (ifa.Inet k) f is) (stays_changed f same k is) (once_same is (changed (ifa.Inet k) f is) (told_same f same k is) once)
changing_lasts f same (ifa.Link k) is once = lasts_by is is (stays_self is) once

pub marking_lasts : MarkingLasts
marking_lasts i is once = changing_lasts routed (λ a. refl) i is once

pub removing_lasts : RemovingLasts
removing_lasts i is once = changing_lasts gone (λ a. refl) i is once

pub none_numbered : NoneNumbered
none_numbered = record { once = λ k. omega arith; none_past = λ k h. refl }
