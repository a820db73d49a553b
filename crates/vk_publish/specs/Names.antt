-- The number of an agent's new folder: the least whose name isn't listed.
use Rattle.std.specs.Prelude.{◌+◌, ℕ, zero, suc, List, [], Bool, Option, Some, None, Result, Ok, Err, cond}
use Rattle.std.specs.List.{list_any}
use Rattle.std.specs.Str.{bytes_eq}
use Rattle.vk_spec.specs.Standing.{Entry}
use Rattle.vk_spec.specs.Calls.{Refusal, missing, too_large, exists, many}
use Rattle.vk_base.specs.declared.limits.Limit.{Limit}
use Rattle.vk_base.specs.declared.limits.Limit.TheVariants as limit
use Rattle.vk_places.specs.Places.{agent_name}

-- how many names of one agent a folder may have
unfoldable pub names_most : ℕ
names_most = 10000

abbrev pub is_taken : List Entry → List ℕ → Bool
is_taken entries name = list_any (λ e. bytes_eq e.name name) entries

-- the first of so many numbers, from one on, whose name isn't taken
abbrev pub least_from : List ℕ → List Entry → ℕ → ℕ → Option ℕ
least_from agent entries zero n = None
least_from agent entries (suc k) n = cond (is_taken entries (agent_name agent n)) (least_from agent entries k (n + 1)) (Some n)

abbrev pub least_free : List ℕ → List Entry → Option ℕ
least_free agent entries = least_from agent entries names_most 0

abbrev pub picked : Limit → Option ℕ → Result ℕ Limit
picked full None = Err full
picked full (Some n) = Ok n

-- by what was listed: where all names are taken it is this limit, and where there are too many to list that of entries
abbrev pub free_of : Limit → List ℕ → Result (List Entry) Refusal → Result ℕ Limit
free_of full agent (Ok entries) = picked full (least_free agent entries)
free_of full agent (Err missing) = picked full (least_free agent [])
free_of full agent (Err too_large) = Err limit.Entries
free_of full agent (Err exists) = Err limit.Entries
free_of full agent (Err many) = Err limit.Entries
