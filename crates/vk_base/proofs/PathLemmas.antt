-- Keys of paths and what their anchors say.
use Rattle.std.proofs.Common.{◌≡◌, ◌≢◌, ◌↔◌, ◌+◌, ◌-◌, ◌/◌, ◌*◌, ◌==◌, ◌<◌, ◌≤◌, ◌++◌, ◌&&◌, not, ℕ, zero, suc, Bool, true, false, List, [], ◌∷◌, length, take, drop, get_or, refl, ap, sym, ◌∙◌, arith}
use Rattle.std.specs.Prelude.{slice_index}
use Rattle.std.specs.Bool.{IsTrue}
use Rattle.std.specs.List.{All}
use Rattle.std.proofs.lemmas.List.{take_all}
use Rattle.std.proofs.lemmas.Bool.{true≢false}
use Rattle.std.proofs.lemmas.Bool.Decides.{nat_tests}
use Rattle.std.proofs.lemmas.List.Elements.{All-from_get_or, All-weaker, All-nil, All-cons, All-tail}
use Rattle.std.proofs.lemmas.Slice.Eq.{bytes_eq-Decides, starts_is}
use Rattle.std.specs.Str.{bytes_eq}
use Rattle.std.proofs.lemmas.List.Splits.{slice_split_none, slice_split_at}
use Rattle.vk_spec.specs.Paths.{Path, steps_up, anchor, Begins, IsApart}
use Rattle.vk_base.specs.Paths.{Lacks, IsPart, IsPathOf, IsPath, lacks, is_part, anchor_of, is_rooted, ups_of, parts_of, climbed, joined, begins, steps_of, front_of}
use Rattle.vk_base.specs.PathReading.{with_segment, segments, walked}

rooted_anchor : (rooted : Bool) (ups : ℕ) → (slice_index (anchor rooted ups) 0 == 47) ≡ rooted
rooted_anchor true ups = refl
rooted_anchor false zero = refl
rooted_anchor false (suc zero) = refl
rooted_anchor false (suc (suc ups)) = refl

pub is_rooted-key : (rooted : Bool) (ups : ℕ) (parts : Path) → is_rooted (anchor rooted ups ∷ parts) ≡ rooted
is_rooted-key rooted ups parts = rooted_anchor rooted ups

length-steps_up : (n : ℕ) → length (steps_up n) ≡ 3 * n + 2
length-steps_up zero = refl
length-steps_up (suc n) = omega (arith, length-steps_up n)

ups-anchor : (n : ℕ) → (length (anchor false n) + 1) / 3 ≡ n
ups-anchor zero = refl
ups-anchor (suc n) = omega (arith, length-steps_up n)

pub ups_of-key : (rooted : Bool) (ups : ℕ) (parts : Path) → (rooted ≡ true → ups ≡ 0) → ups_of (anchor rooted ups ∷ parts) ≡ ups
ups_of-key true ups parts root = sym (root refl)
ups_of-key false ups parts root = ups-anchor ups

pub climbed-key : (rooted : Bool) (ups : ℕ) (parts : Path) (n : ℕ) → (rooted ≡ true → ups ≡ 0)
    → climbed (anchor rooted ups ∷ parts) n ≡ anchor rooted (ups + (n - length parts)) ∷ take (length parts - n) parts
climbed-key rooted ups parts n root = rw (rooted_anchor rooted ups, ups_of-key rooted ups parts root) refl

pub path_from : (rooted : Bool) (ups : ℕ) (parts key : Path) → anchor rooted ups ∷ parts ≡ key → IsPathOf rooted ups parts → IsPath key
path_from rooted ups parts key e path = record { rooted = rooted; ups = ups; parts = parts; key_is = sym e; path = path }

pub ups_most : (rooted : Bool) (ups : ℕ) (parts : Path) → ups_of (anchor rooted ups ∷ parts) ≤ ups
ups_most true ups parts = omega arith
ups_most false ups parts = omega (arith, ups-anchor ups)

-- one step up is at most one more
pub climb_ups : (key : Path) → IsPath key → ups_of (climbed key 1) ≤ ups_of key + 1
climb_ups key path =
    omega (
      arith,
      ap (λ k. ups_of (climbed k 1)) path.key_is,
      ap ups_of (climbed-key path.rooted path.ups path.parts 1 path.path.root),
      ap ups_of path.key_is,
      ups_of-key path.rooted path.ups path.parts path.path.root,
      ups_most path.rooted (path.ups + (1 - length path.parts)) (take (length path.parts - 1) path.parts),
    )

-- what a text lacks, by its places
pub lacks_from : (b : ℕ) (text : List ℕ) → ((i : ℕ) → i < length text → get_or text i 0 ≢ b) → Lacks b text
lacks_from b text each = All-from_get_or (λ c. c ≢ b) text 0 each

pub no_slash : (text : List ℕ) → Lacks 47 text → All (λ b. (b == 47) ≡ false) text
no_slash text lacks = All-weaker (λ b. b ≢ 47) (λ b. (b == 47) ≡ false) (λ b other. grind (arith, nat_tests)) text lacks

-- the first segment, and the only one
pub segment_first : (text first rest : List ℕ) → text ≡ first ++ 47 ∷ rest → Lacks 47 first → segments text ≡ first ∷ segments rest
segment_first text first rest e lacks = ap segments e ∙ slice_split_at (λ b. b == 47) first 47 rest (no_slash first lacks) refl

pub segment_last : (text : List ℕ) → Lacks 47 text → segments text ≡ text ∷ []
segment_last text lacks = slice_split_none (λ b. b == 47) text (no_slash text lacks)

pub walked_next : (key next : Path) (segment : List ℕ) (all more : List (List ℕ)) (end : Path) → all ≡ segment ∷ more → next ≡ with_segment key segment → walked key all ≡ end → walked next more ≡ end
unfolding walked
walked_next key next segment all more end all_is next_is so_far = rw (next_is) (sym (ap (walked key) all_is) ∙ so_far)

pub walked_last : (key next : Path) (segment : List ℕ) (all : List (List ℕ)) (end : Path) → all ≡ segment ∷ [] → next ≡ with_segment key segment → walked key all ≡ end → next ≡ end
unfolding walked
walked_last key next segment all end all_is next_is so_far = next_is ∙ sym (ap (walked key) all_is) ∙ so_far

pub lacks_after : (b c : ℕ) (front back : List ℕ) → Lacks b (front ++ c ∷ back) → Lacks b back
lacks_after b c [] back lacks = All-tail (λ d. d ≢ b) c back lacks
lacks_after b c (x ∷ front) back lacks = lacks_after b c front back (All-tail (λ d. d ≢ b) x (front ++ c ∷ back) lacks)

pub rooted-fields : (rooted : Bool) (ups : ℕ) (parts key : Path) → anchor rooted ups ∷ parts ≡ key → rooted ≡ is_rooted key
rooted-fields rooted ups parts key e = sym (is_rooted-key rooted ups parts) ∙ ap is_rooted e

pub ups-fields : (rooted : Bool) (ups : ℕ) (parts key : Path) → anchor rooted ups ∷ parts ≡ key → (rooted ≡ true → ups ≡ 0) → ups ≡ ups_of key
ups-fields rooted ups parts key e root = sym (ups_of-key rooted ups parts root) ∙ ap ups_of e

-- a key is made of what it says
pub key_again : (key : Path) → IsPath key → anchor (is_rooted key) (ups_of key) ∷ parts_of key ≡ key
key_again key path =
    rw (path.key_is, is_rooted-key path.rooted path.ups path.parts, ups_of-key path.rooted path.ups path.parts path.path.root) refl

-- one path begins another where the anchors are the same and the parts begin those
pub begins_parts : (one other : List ℕ) (front parts : Path) → one ≡ other → Begins front parts → Begins (one ∷ front) (other ∷ parts)
begins_parts one other front parts same begins = (begins.0, rw (← same) (ap (λ l. one ∷ l) begins.1))

pub anchors_begin : (one other : List ℕ) (front parts : Path) → Begins (one ∷ front) (other ∷ parts) → (one ≡ other) × Begins front parts
anchors_begin one other front parts begins = (sym (ap anchor_of begins.1), (begins.0, ap parts_of begins.1))

begins_both : (folder path : Path) → (begins folder path ≡ true → path ≡ folder ++ drop (length folder) path) × ((rest : Path) → path ≡ folder ++ rest → begins folder path ≡ true)
begins_both folder path = starts_is bytes_eq-Decides path folder (begins folder path) refl

-- a test that says whether the one path begins the other
pub begins_is : (test : Bool) (folder path : Path) → IsTrue test ↔ Begins folder path → test ≡ begins folder path
begins_is true folder path says = let rest = says.0 refl in sym ((begins_both folder path).1 rest.0 rest.1)
begins_is false folder path says = by (begins folder path) refl
  where
    by : (b : Bool) → begins folder path ≡ b → false ≡ b
    by true is = says.1 (drop (length folder) path, (begins_both folder path).0 is)
    by false is = refl

-- where the test fails it doesn't begin it
pub no_begin : (folder path : Path) → begins folder path ≡ false → IsApart folder path
no_begin folder path fails has = absurd (true≢false (sym ((begins_both folder path).1 has.0 has.1) ∙ fails))

steps_more : (n : ℕ) → steps_of n ++ 46 ∷ 46 ∷ 47 ∷ [] ≡ steps_of (suc n)
steps_more zero = refl
steps_more (suc n) = ap (λ l. 46 ∷ 46 ∷ 47 ∷ l) (steps_more n)

pub steps_next : (n : ℕ) → steps_of n ++ 46 ∷ 46 ∷ 47 ∷ [] ≡ steps_of (n + 1)
steps_next n = let next : suc n ≡ n + 1 = omega arith in steps_more n ∙ ap steps_of next

pub steps_end : (n : ℕ) → steps_of n ++ 46 ∷ 46 ∷ [] ≡ steps_up n
steps_end zero = refl
steps_end (suc n) = ap (λ l. 46 ∷ 46 ∷ 47 ∷ l) (steps_end n)

pub steps_anchor : (ups : ℕ) → 0 < ups → steps_of (ups - 1) ++ 46 ∷ 46 ∷ [] ≡ anchor false ups
steps_anchor zero some = absurd (omega (arith, some))
steps_anchor (suc n) some = let before : suc n - 1 ≡ n = omega arith in rw before (steps_end n)

-- the steps in front of an unrooted path's parts
pub front-unrooted : (ups : ℕ) → steps_of ups ≡ front_of (anchor false ups ∷ [])
front-unrooted ups = rw (is_rooted-key false ups [], ups-anchor ups) refl

pub joined_down : (key more : Path) (n : ℕ) → is_rooted more ≡ false → ups_of more ≡ n → joined key more ≡ climbed key n ++ parts_of more
joined_down key more n plain steps = rw (plain, steps) refl

stays_there : (rooted : Bool) (ups : ℕ) (parts : Path) → anchor rooted (ups + (0 - length parts)) ∷ take (length parts - 0) parts ≡ anchor rooted ups ∷ parts
stays_there rooted ups parts =
    let up : ups + (0 - length parts) ≡ ups = omega arith in
    let all : length parts - 0 ≡ length parts = omega arith in
    rw (up, all) (ap (λ l. anchor rooted ups ∷ l) (take_all (length parts) parts (omega arith)))

-- a path and then one without steps up
pub joined-here : (key parts : Path) → IsPath key → joined key ((46 ∷ []) ∷ parts) ≡ key ++ parts
joined-here key parts path =
    let same : climbed key 0 ≡ key =
    ap (λ k. climbed k 0) path.key_is ∙ climbed-key path.rooted path.ups path.parts 0 path.path.root ∙ stays_there path.rooted path.ups path.parts ∙ sym path.key_is in
    joined_down key ((46 ∷ []) ∷ parts) 0 refl refl ∙ ap (λ k. k ++ parts) same

pub both : (one two : Bool) → (one && two) ≡ true → (one ≡ true) × (two ≡ true)
both true two e = (refl, e)
both false two e = (cc)

denied : (test : Bool) → not test ≡ true → test ≡ true → ⊥
denied true e holds = (cc)
denied false e holds = (cc)

pub lacks_byte : (b : ℕ) (text : List ℕ) → lacks b text ≡ true → Lacks b text
lacks_byte b [] e = All-nil (λ c. c ≢ b)
lacks_byte b (c ∷ text) e =
    let parts = both (not (c == b)) (lacks b text) e in
    let other = parts.0 in
    All-cons (λ d. d ≢ b) c text (grind (arith, nat_tests)) (lacks_byte b text parts.1)

-- what passes the test is a part
pub part_from : (text : List ℕ) → is_part text ≡ true → IsPart text
part_from text e =
    let one = both (not (length text == 0)) (not (bytes_eq text (46 ∷ [])) && (not (bytes_eq text (46 ∷ 46 ∷ [])) && (lacks 47 text && lacks 0 text))) e in
    let two = both (not (bytes_eq text (46 ∷ []))) (not (bytes_eq text (46 ∷ 46 ∷ [])) && (lacks 47 text && lacks 0 text)) one.1 in
    let three = both (not (bytes_eq text (46 ∷ 46 ∷ []))) (lacks 47 text && lacks 0 text) two.1 in
    let four = both (lacks 47 text) (lacks 0 text) three.1 in
    record {
      some = λ same. denied (length text == 0) one.0 (ap (λ t. length t == 0) same);
      not_here = λ same. denied (bytes_eq text (46 ∷ [])) two.0 ((bytes_eq-Decides text (46 ∷ [])).1 same);
      not_above = λ same. denied (bytes_eq text (46 ∷ 46 ∷ [])) three.0 ((bytes_eq-Decides text (46 ∷ 46 ∷ [])).1 same);
      no_slash = lacks_byte 47 text four.0;
      no_zero = lacks_byte 0 text four.1;
    }
