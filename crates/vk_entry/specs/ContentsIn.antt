-- The files of which bytes are the contents list, as a function: what the lines say is what they
-- are, where these files may stand in a list and their list has the same bytes.
use Rattle.std.specs.Prelude.{◌+◌, ◌-◌, ◌*◌, ◌^◌, ◌==◌, ◌&&◌, ◌∷◌, [], ℕ, Bool, true, false, not}
use Rattle.std.specs.Prelude.{nat_lt, nat_le, List, length, map, take, drop, slice_index_or}
use Rattle.std.specs.Prelude.{Option, Some, None, Result, Ok, Err, if◌then◌else◌}
use Rattle.std.specs.Char.{digit_value}
use Rattle.std.specs.List.{list_all, slice_split}
use Rattle.std.specs.Ordering.{nat_cmp, is_lt}
use Rattle.std.specs.Result.{result_unwrap_or}
use Rattle.std.specs.Cmp.Lexicographic.{pointwise, slice_cmp}
use Rattle.std.specs.Str.{bytes_eq, is_utf8}
use Rattle.std.specs.Str.Parse.{digits_value}
use Rattle.hex.specs.Hex.{decode_of}
use Rattle.vk_spec.specs.Paths.{Path}
use Rattle.vk_base.specs.Paths.{is_rooted, ups_of, parts_of, text_of_path}
use Rattle.vk_base.specs.PathReading.{path_of}
use Rattle.vk_base.specs.declared.paths.PathFault.{PathFault}
use Rattle.vk_entry.specs.Contents.{Content, contents_text}

-- ---- what lines say, of which nothing is tested here

-- what stands between one mark and the next
abbrev pub between : ℕ → List ℕ → List (List ℕ)
between mark text = slice_split (λ b. b == mark) text

-- what a token is that of: `%` and two digits are a byte
abbrev pub bytes_said : List ℕ → List ℕ
bytes_said [] = []
bytes_said (b ∷ []) = b ∷ []
bytes_said (b ∷ c ∷ []) = b ∷ c ∷ []
bytes_said (b ∷ high ∷ low ∷ token) =
    if b == 37 then (16 * digit_value high + digit_value low) ∷ bytes_said token
    else b ∷ bytes_said (high ∷ low ∷ token)

abbrev pub path_said : List ℕ → Path
path_said token = result_unwrap_or (path_of (bytes_said token)) []

abbrev pub digest_said : List ℕ → List ℕ
digest_said digits = result_unwrap_or (decode_of digits) []

-- behind the first word of a line stand a path, a size and a digest
abbrev pub content_said : List (List ℕ) → Content
content_said words = record {
  path = path_said (slice_index_or words 1 []);
  size = digits_value 10 (slice_index_or words 2 []);
  digest = digest_said (slice_index_or words 3 []);
}

-- the lines of files stand behind the first line, and before the last one and its line feed
abbrev pub file_lines : List (List ℕ) → List (List ℕ)
file_lines lines = take (length lines - 3) (drop 1 lines)

abbrev pub contents_said : List ℕ → List Content
contents_said bytes = map (λ line. content_said (between 32 line)) (file_lines (between 10 bytes))

-- ---- which files may stand in a list, as tests

abbrev pub are_bytes : List ℕ → Bool
are_bytes text = list_all (λ b. nat_lt b 256) text

abbrev pub is_that : Result Path PathFault → Path → Bool
is_that (Ok read) path = pointwise bytes_eq read path
is_that (Err fault) path = false

-- a path whose text reads as it, which texts of at most 4,096 bytes do
abbrev pub is_short : Path → Bool
is_short path = is_that (path_of (text_of_path path)) path

abbrev pub is_right_path : Path → Bool
is_right_path path = is_short path && (are_bytes (text_of_path path) && is_utf8 (text_of_path path))

abbrev pub is_of_package : Path → Bool
is_of_package path =
    not (is_rooted path)
    && ((ups_of path == 0) && (nat_lt 0 (length (parts_of path)) && nat_le (length (parts_of path)) 60))

abbrev pub is_digest : List ℕ → Bool
is_digest digest = are_bytes digest && (length digest == 32)

abbrev pub is_content : Content → Bool
is_content c =
    (is_right_path c.path && is_of_package c.path) && (nat_lt c.size (2 ^ 64) && is_digest c.digest)

abbrev pub texts_ascend : List (List ℕ) → Bool
texts_ascend [] = true
texts_ascend (text ∷ texts) =
    list_all (λ other. is_lt (slice_cmp nat_cmp text other)) texts && texts_ascend texts

abbrev pub are_contents : List Content → Bool
are_contents cs = list_all is_content cs && texts_ascend (map (λ c. text_of_path c.path) cs)

-- ---- the function

abbrev pub is_list : List ℕ → List Content → Bool
is_list bytes cs = bytes_eq bytes (contents_text cs) && are_contents cs

-- the files of which the bytes are the list; none where they are no list
unfoldable pub contents_in : List ℕ → Option (List Content)
contents_in bytes = if is_list bytes (contents_said bytes) then Some (contents_said bytes) else None
