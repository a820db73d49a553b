-- Reading a value part by part. Each reading gives what a value means, or its first fault.
use Rattle.std.specs.Prelude.{ℕ, Bool, List, [], ◌∷◌, Option, Some, None, Result, Ok, Err}
use Rattle.serde_json.specs.Data.{Data, Members, no_members, member}
use Rattle.serde_json.specs.Data as json
use Rattle.serde_json.specs.Find.{get, as_str, as_bool, as_object}
use Rattle.vk_spec.specs.Reading.{◌>>=◌, or_fault, read_each}
use Rattle.vk_json.specs.declared.faults.FileFault.{FileFault}
use Rattle.vk_json.specs.Looks.{items_of, number_of}
use Rattle.vk_json.specs.Places.{here, inside, member_step, item_step}
use Rattle.vk_json.specs.declared.faults.Why.TheVariants as why

-- how a value is read
abbrev pub Reading : Type 0 → Type 0
Reading A = Data → Result A FileFault

-- a text
abbrev pub text_at : Reading (List ℕ)
text_at d = or_fault (here why.Text) (as_str d)

-- a truth value
abbrev pub bool_at : Reading Bool
bool_at d = or_fault (here why.Bool) (as_bool d)

-- a whole number from 0 to 2^32 - 1
abbrev pub number_at : Reading ℕ
number_at d = or_fault (here why.Number) (number_of d)

-- the members of an object
abbrev pub members_at : Reading Members
members_at d = or_fault (here why.Object) (as_object d)

-- that it is an object, whatever its members are
abbrev pub object_at : Reading (Unit {0})
object_at d = members_at d >>= λ ms. Ok tt

-- a value that may be missing
abbrev pub if_there : {A : Type 0} → Reading A → Option Data → Result (Option A) FileFault
if_there f None = Ok None
if_there f (Some d) = f d >>= λ x. Ok (Some x)

-- a member that has to be there
unfoldable pub wanted : {A : Type 0} → Reading A → List ℕ → Reading A
wanted f key d = inside (member_step key) (or_fault (here why.Missing) (get key d) >>= f)

-- a member that may be there
unfoldable pub optional : {A : Type 0} → Reading A → List ℕ → Reading (Option A)
optional f key d = inside (member_step key) (if_there f (get key d))

-- a value, or what stands for one that is missing
abbrev pub read_or : {A : Type 0} → A → Reading A → Option Data → Result A FileFault
read_or default f None = Ok default
read_or default f (Some d) = f d

-- a member, or what stands for it where it is missing
unfoldable pub optional_or : {A : Type 0} → A → Reading A → List ℕ → Reading A
optional_or default f key d = inside (member_step key) (read_or default f (get key d))

-- a text is read in one way, an object in another, and nothing else is an item
abbrev pub text_or_object : {A : Type 0} → Reading A → Reading A → Reading A
text_or_object text object (json.string s) = text (json.string s)
text_or_object text object (json.object ms) = object (json.object ms)
text_or_object text object json.null = Err (here why.Item)
text_or_object text object (json.boolean b) = Err (here why.Item)
text_or_object text object (json.number n) = Err (here why.Item)
text_or_object text object (json.array ds) = Err (here why.Item)

-- an item, with its place in the list
abbrev pub item_at : {A : Type 0} → Reading A → ℕ → Reading A
item_at f n d = inside (item_step n) (f d)

-- a list, item by item
unfoldable pub each_item : {A : Type 0} → Reading A → Reading (List A)
each_item f d = or_fault (here why.List) (items_of d) >>= read_each (item_at f) 0

-- a member: its key and its value
abbrev pub Member : Type 0
Member = List ℕ × Data

-- members as a list; they stand in byte order of their keys
abbrev pub pairs_of : Members → List Member
pairs_of no_members = []
pairs_of (member k d ms) = (k, d) ∷ pairs_of ms

-- how a member is read, by its key and its value
abbrev pub MemberReading : Type 0 → Type 0
MemberReading A = List ℕ → Data → Result A FileFault

-- a member, with its key as the place
abbrev pub member_at : {A : Type 0} → MemberReading A → Member → Result A FileFault
member_at f m = inside (member_step m.0) (f m.0 m.1)

-- members, one after the other
abbrev pub members_by : {A : Type 0} → MemberReading A → Members → Result (List A) FileFault
members_by f ms = read_each (λ _. member_at f) 0 (pairs_of ms)

-- an object, member by member in byte order of keys
unfoldable pub each_member : {A : Type 0} → MemberReading A → Reading (List A)
each_member f d = members_at d >>= members_by f
