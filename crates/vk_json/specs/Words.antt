-- The printed words of faults.
use Rattle.std.specs.Prelude.{◌++◌, ◌<◌, ◌^◌, ℕ, List, Option, Some, None, IfSome, codes}
use Rattle.std.specs.Fmt.{decimal}
use Rattle.vk_json.specs.declared.faults.Why.{Why}
use Rattle.vk_json.specs.declared.faults.Why.TheVariants as why

-- the name of what is wrong
abbrev pub name_of : Why → List ℕ
name_of why.Absent = codes "absent"
name_of why.Large = codes "large"
name_of why.Json = codes "json"
name_of why.Object = codes "object"
name_of why.List = codes "list"
name_of why.Text = codes "text"
name_of why.Bool = codes "bool"
name_of why.Number = codes "number"
name_of why.Item = codes "item"
name_of why.Missing = codes "missing"
name_of why.Name = codes "name"
name_of why.Reserved = codes "reserved"
name_of why.TwoVersions = codes "two-versions"
name_of why.NoVersion = codes "no-version"
name_of why.Version = codes "version"
name_of why.Range = codes "range"
name_of why.Day = codes "day"
name_of (why.Unexpected n) = codes "unexpected"
name_of (why.Mixed n) = codes "mixed"
name_of (why.Open n) = codes "open"
name_of why.Depth = codes "depth"
name_of why.Path = codes "path"
name_of why.Kind = codes "kind"
name_of why.Pattern = codes "pattern"
name_of why.Twice = codes "twice"
name_of why.Many = codes "many"
name_of (why.Line n) = codes "line"
name_of why.Utf8 = codes "utf8"

-- the number that is told with it: a byte offset or a line
abbrev pub number_in : Why → Option ℕ
number_in (why.Unexpected at) = Some at
number_in (why.Mixed at) = Some at
number_in (why.Open at) = Some at
number_in (why.Line n) = Some n
number_in other = None

-- a name, and after a colon the number, if there is one
abbrev pub with_number : List ℕ → Option ℕ → List ℕ
with_number name None = name
with_number name (Some n) = name ++ (codes ":" ++ decimal n)

-- the printed word
abbrev pub word_of : Why → List ℕ
word_of w = with_number (name_of w) (number_in w)

-- its number, if it tells one, has 32 bits
abbrev pub HasSmallNumber : Why → Type 0
HasSmallNumber w = IfSome (number_in w) (λ n. n < 2 ^ 32)
