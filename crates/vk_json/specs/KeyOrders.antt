-- The keys of objects in byte order.
use Rattle.std.specs.Prelude.{ℕ, List, IfSome}
use Rattle.std.specs.List.Sorted.{IsStrictlySortedBy}
use Rattle.std.specs.Ordering.{nat_cmp}
use Rattle.std.specs.Cmp.Lexicographic.{slice_cmp}
use Rattle.serde_json.specs.Data.{Data, Members}
use Rattle.vk_json.specs.Looks.{names_of, keys_of}

-- keys ascend, so none comes twice
abbrev pub Ascend : List (List ℕ) → Type 0
Ascend keys = IsStrictlySortedBy (slice_cmp nat_cmp) keys

abbrev pub NamesAscend : Members → Type 0
NamesAscend ms = Ascend (names_of ms)

-- the keys of an object ascend
abbrev pub KeysAscend : Data → Type 0
KeysAscend d = IfSome (keys_of d) Ascend
