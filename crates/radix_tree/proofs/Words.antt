-- The words that proofs use, of this crate, of those below and of std, with lemmas of tests, of lists and of options.
pub use Rattle.std.proofs.Common.{Bool, IsTrue, List, None, Option, Some, [], ap, arith, cond, false, filter, if◌then◌else◌, inl, inr, length, map, nat_eq}
pub use Rattle.std.proofs.Common.{nat_lt, not, refl, subst, suc, sym, true, true≢false, zero, ℕ, ⊎_elim, ◌%◌, ◌&&◌, ◌*◌, ◌++◌, ◌+◌, ◌-◌, ◌/◌, ◌<◌, ◌==◌, ◌^◌}
pub use Rattle.std.proofs.Common.{◌||◌, ◌∙◌, ◌∷◌, ◌≡◌, ◌≤◌, ◌⊎◌}
pub use Rattle.std.proofs.lemmas.Bool.{cases_eq, cases_lt, eq-eqb, eqb-false, eqb-true, ne_eqb}
pub use Rattle.std.proofs.lemmas.Bool.Decides.{nat_tests}
pub use Rattle.std.proofs.lemmas.List.{append-nil, append_assoc}
pub use Rattle.std.specs.FinMap.{get}
pub use Rattle.std.specs.Int.Bits.{bit_xor}
pub use Rattle.std.specs.Int.Count.{count_leading_zeros}
pub use Rattle.std.specs.List.{AllByRecursion}
pub use Rattle.std.specs.Option.{option_or}
pub use Rattle.std.specs.Ordering.{is_lt, nat_cmp}
pub use Rattle.std.specs.Prelude.{Contains, IfNone, IfSome, IsSome, MatchOption, find, is_some, option_map}
pub use denote.RawPtr.{Ptr}
pub use Rattle.mask_table.specs.Agreeing.{agrees, front, masked}
pub use Rattle.mask_table.specs.Counts.{HasOneMore}
pub use Rattle.radix_nodes.specs.Counting.{Counter}
pub use Rattle.radix_nodes.specs.Links.{bit_node_of, leaf_of, mask_node_of}
pub use Rattle.radix_nodes.specs.Naming.{number_of}
pub use Rattle.radix_nodes.specs.Rooms.{Has, Rooms, Seen, put_links, put_room, put_value, seen}
pub use Rattle.radix_nodes.specs.declared.id.Id.{Id}
pub use Rattle.radix_nodes.specs.declared.links.BitNode.{BitNode}
pub use Rattle.radix_nodes.specs.declared.links.Leaf.{Leaf}
pub use Rattle.radix_nodes.specs.declared.links.Links.{Links}
pub use Rattle.radix_nodes.specs.declared.links.MaskNode.{MaskNode}
pub use Rattle.radix_nodes.specs.declared.links.Node.{Node}
pub use Rattle.radix_nodes.specs.declared.links.Node.TheVariants.{Bit as BitOf, Leaf as LeafOf}
pub use Rattle.radix_tree.specs.Bounds.{levels}
pub use Rattle.radix_tree.specs.Chains.{ArePast, FindsGap, IsBelow, IsGap, Passed, above_behind, last_room, leaf_back, leaf_next, link_in, link_out, name_back}
pub use Rattle.radix_tree.specs.Chains.{name_next, root_past}
pub use Rattle.radix_tree.specs.Exchange.{Exchanged, Frame, IsExchange, Lead, low_past, on_one, on_zero, plug}
pub use Rattle.radix_tree.specs.Found.{routed}
pub use Rattle.radix_tree.specs.Growth.{AreOnce, Differs, Gains, IsBeside, IsLodged, IsNew, IsPlace, IsSpot, forked, forked_tree, name_child, placed}
pub use Rattle.radix_tree.specs.Growth.{root_after, with_child, with_head}
pub use Rattle.radix_tree.specs.Joining.{HasSides, IsApart, IsHanded, IsLone, IsLonely, other_side}
pub use Rattle.radix_tree.specs.Kept.{AreCounted, IsKept, contents, of_rank}
pub use Rattle.radix_tree.specs.Lending.{with_value}
pub use Rattle.radix_tree.specs.Marks.{HasRoomMore, has_key, is_of_key, late_at, out_at}
pub use Rattle.radix_tree.specs.MaskLists.{AreRanked, HomeAt, IsAside, IsBitNode, IsFree, IsHome, IsMasks, IsNoRank, IsRanked, KeepsAside, KeepsAsideBut}
pub use Rattle.radix_tree.specs.MaskLists.{KeepsMarksBut, MasksAt, below, head_linked, last_from, last_mask, mask_linked, not_below, past_bit, sorted_in}
pub use Rattle.radix_tree.specs.MaskLists.{taken_out, up_to_bit}
pub use Rattle.radix_tree.specs.Reads.{IsBitNodeOf, Reads, ReadsOnce, Stays}
pub use Rattle.radix_tree.specs.Removal.{CanTake, Content, IsOut, KeepsRoutes, content_of, member_beside, rename, renamed, with_renamed}
pub use Rattle.radix_tree.specs.Rooms.{AreListed, AreListed as MasksAreListed, BitPart, Bits, ChainStands, Falls, Heads, IsMarked, IsMaskList, LeafPart, Leaves}
pub use Rattle.radix_tree.specs.Rooms.{Lists, Lodged, MarkedIn, MarkedLists, MaskPart, Masks, MasksStand, Part, Run, Stands, bit_in, bit_part, bits_in}
pub use Rattle.radix_tree.specs.Rooms.{first_room, head_in, head_part, heads_in, leaf_in, leaf_part, leaves_in, mask_in, mask_part, masks_in, name_of}
pub use Rattle.radix_tree.specs.Searches.{Beneath, Best, Finds, ForkAt, HasPair, In, LeafAt, LedTo, Tells, Way}
pub use Rattle.radix_tree.specs.Table.{Contents, IsRoute, IsTable, agreeing, best_of, entry_at, first_of, greater, greatest, has_pair, precedes, uses}
pub use Rattle.radix_tree.specs.Table.{with_entry, without}
pub use Rattle.radix_tree.specs.TableLaws.{Agrees, AreOnePair, BestIsGreater, BestIsGreatest, BestIsMember, BestIsUnique, BestStays, BestStaysWithout}
pub use Rattle.radix_tree.specs.TableLaws.{EntryAtIsMember, FirstIsGreatest, FirstOfIsMember, IsBest, MembersAreRoutes, MembersOfWith, MembersOfWithout}
pub use Rattle.radix_tree.specs.TableLaws.{MembersStand, NoneAgrees, PrecedesInWords, PrecedesOneWay, PrecedesTransitively, StandsIn, WithCounts, WithIsTable}
pub use Rattle.radix_tree.specs.TableLaws.{WithKeepsOthers, WithStands, WithThenWithout, WithTwiceIsLast, WithoutCounts, WithoutIsTable, WithoutKeepsOthers}
pub use Rattle.radix_tree.specs.TableLaws.{WithoutLeavesNone, WithoutThenWith}
pub use Rattle.radix_tree.specs.Tree.{Covers, HaveBit, IsAmong, IsChain, IsFork, IsIn, IsTree, Placed, Tree, bit_at, fork, leaf, routes_of}
pub use Rattle.radix_tree.specs.Walks.{IsAt, IsBefore, IsFirst, IsOn, Under, ahead, chain_behind, side_behind}
pub use Rattle.radix_tree.specs.Whole.{AreIdle, HasHome, HasOneFork, HaveOneFork, Holds, IsWhole, IsWholeBut, beneath_shown, chain_from, chain_shown, forks_at}
pub use Rattle.radix_tree.specs.Whole.{leaves_at, members_at, nobody_late, nobody_out, one_if, shown, shown_entry}
pub use Rattle.radix_tree.specs.Writes.{KeepsBits, KeepsHeads, KeepsLeaves, KeepsMasks, KeepsTree, bit_above, leaf_above, lift_bit, lift_leaf, lodge_leaf}
pub use Rattle.radix_tree.specs.Writes.{put_bit, put_head, put_leaf, put_mask, with_leaf}
pub use Rattle.radix_tree.specs.declared.entry.Entry.{Entry}
pub use Rattle.radix_tree.specs.declared.walk.Place.{Place}
pub use Rattle.radix_tree.specs.Index.{HasPlaceLess, HasPlaceMore, Indexes, pair, place_of, places_in, with_place}
pub use Rattle.radix_tree.specs.Given.{AreGiven, numbers_in, rooms_in}

pub inside : {A : Type 0} {x y : A} → Some x ≡ Some y → x ≡ y
inside e = cc

pub none_some : {A : Type 0} {x : A} → None ≡ Some x → ⊥
none_some e = cc
