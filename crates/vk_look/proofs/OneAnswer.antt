-- A look has one answer.
use Rattle.std.proofs.Common.{◌≡◌, ◌≢◌, ◌⊎◌, inl, inr, ◌++◌, ◌&&◌, [], ◌∷◌, ℕ, List, length, Bool, true, false, refl, ap, sym, ◌∙◌, subst, arith, nat_le, map}
use Rattle.std.specs.Prelude.{Some, None, IsSome, Ok, Err, if◌then◌else◌}
use Rattle.std.specs.List.{Contains}
use Rattle.std.specs.Str.{bytes_eq}
use Rattle.std.proofs.lemmas.Bool.{and_from}
use Rattle.std.proofs.lemmas.Bool.Decides.{nat_tests}
use Rattle.std.proofs.lemmas.List.{append-nil}
use Rattle.std.proofs.lemmas.List.Elements.{Contains-append_right}
use Rattle.std.proofs.lemmas.Slice.Eq.{bytes_eq-Decides}
use Rattle.sha2.specs.Sha256.{sha256}
use Rattle.vk_spec.specs.Paths.{Path}
use Rattle.vk_spec.specs.Standing.{Disk, IsFile, IsFolder, Stands}
use Rattle.vk_spec.proofs.FileLemmas.{none_some}
use Rattle.vk_spec.proofs.ListLemmas.{contains_first, contains_later}
use Rattle.vk_resolution.proofs.Members.{no_is_false}
use Rattle.vk_tree.specs.Trees.{IsTreeDisk}
use Rattle.vk_base.specs.declared.limits.Limit.TheVariants.{Bytes}
use Rattle.vk_entry.specs.Packages.{File}
use Rattle.vk_entry.specs.Contents.{Content, content_of}
use Rattle.vk_entry.specs.ContentLists.{IsList}
use Rattle.vk_entry.specs.ContentsIn.{contents_in}
use Rattle.vk_entry.proofs.ContentsFound.{in_list}
use Rattle.vk_places.specs.Places.{text_at, contents_at, file_at}
use Rattle.vk_look.specs.LookIs.{Wanted, bytes_listed, HasText, HasList, HasExtra, HasMissing, HasAll, IsAsListed, IsWrong, FirstWrong, Holds, LookIs}
use Rattle.vk_look.specs.Looks.{Looked, keeps, looked}
use Rattle.vk_look.specs.declared.answers.Harm.{Harm}
use Rattle.vk_look.specs.declared.answers.Harm.TheVariants.{Text, Contents, Extra, Missing, Size, Hash}
use Rattle.vk_look.specs.declared.answers.Look.TheVariants.{Hit, Absent, Damaged, Collision}
use Rattle.vk_look.proofs.PlaceTests.{one_some, some_as, same_bytes}
use Rattle.vk_look.proofs.FileTells.{holds_each}

-- ---- the parts of an entry are one

-- two places in one list are one, or each is before the other
places_one : {X : Type 0} (before others : List X) (x y : X) (later rest : List X) → before ++ x ∷ later ≡ others ++ y ∷ rest → (x ≡ y) ⊎ (Contains others x ⊎ Contains before y)
places_one [] [] x y later rest e = inl (cc)
places_one [] (b ∷ others) x y later rest e = let same : b ≡ x = (cc) in inr (inl (subst (λ z. Contains (z ∷ others) x) (sym same) (contains_first x others)))
places_one (a ∷ before) [] x y later rest e = let same : a ≡ y = (cc) in inr (inr (subst (λ z. Contains (z ∷ before) y) (sym same) (contains_first y before)))
places_one (a ∷ before) (b ∷ others) x y later rest e =
    let tails : before ++ x ∷ later ≡ others ++ y ∷ rest = (cc) in
    elim (places_one before others x y later rest tails) [
      | inl same ↦ inl same
      | inr (inl at) ↦ inr (inl (contains_later b x others at))
      | inr (inr at) ↦ inr (inr (contains_later a y before at))
    ]

module _ (entry : Path) (d : Disk) where
  list_one : (cs ds : List Content) → HasList entry cs d → HasList entry ds d → cs ≡ ds
  list_one cs ds one other =
      let same = one_some one.bytes other.bytes (d (contents_at entry)) one.stands other.stands in
      one_some cs ds (contents_in other.bytes) (in_list other.bytes cs (subst (λ b. IsList b cs) same one.list)) (in_list other.bytes ds other.list)

  no_extra : (cs : List Content) → HasAll entry cs d → HasExtra entry cs d → ⊥
  no_extra cs all (inl q) = q.3 (all.only q.0 q.1 q.2)
  no_extra cs all (inr l) = all.calm l.1.place l.0 l.1.passes

  none_missing : (cs : List Content) → HasAll entry cs d → HasMissing entry cs d → ⊥
  none_missing cs all c = none_some (d (file_at entry c.0.path)) c.2 (all.there c.0 c.1)

  stands_as : (c : Content) (file : File) → IsAsListed entry c file d → d (file_at entry c.path) ≡ Some file.bytes
  stands_as c file is = subst (λ p. d (file_at entry p) ≡ Some file.bytes) (ap (λ x. x.path) is.listed) is.stands

  not_wrong : (harm : Harm) (c : Content) (file : File) → IsWrong harm entry c d → IsAsListed entry c file d → ⊥
  not_wrong Text c file wrong is = absurd wrong
  not_wrong Contents c file wrong is = absurd wrong
  not_wrong Extra c file wrong is = absurd wrong
  not_wrong Missing c file wrong is = absurd wrong
  not_wrong Size c file wrong is = wrong.2 (ap length (one_some wrong.0 file.bytes (d (file_at entry c.path)) wrong.1 (stands_as c file is)) ∙ ap (λ x. x.size) is.listed)
  not_wrong Hash c file wrong is = wrong.3 (ap sha256 (one_some wrong.0 file.bytes (d (file_at entry c.path)) wrong.1 (stands_as c file is)) ∙ ap (λ x. x.digest) is.listed)

  harm_one : (c : Content) (harm other : Harm) → IsWrong harm entry c d → IsWrong other entry c d → harm ≡ other
  harm_one c Text other one two = absurd one
  harm_one c Contents other one two = absurd one
  harm_one c Extra other one two = absurd one
  harm_one c Missing other one two = absurd one
  harm_one c Size Text one two = absurd two
  harm_one c Size Contents one two = absurd two
  harm_one c Size Extra one two = absurd two
  harm_one c Size Missing one two = absurd two
  harm_one c Size Size one two = refl
  harm_one c Size Hash one two = absurd (one.2 (ap length (one_some one.0 two.0 (d (file_at entry c.path)) one.1 two.1) ∙ two.2))
  harm_one c Hash Text one two = absurd two
  harm_one c Hash Contents one two = absurd two
  harm_one c Hash Extra one two = absurd two
  harm_one c Hash Missing one two = absurd two
  harm_one c Hash Size one two = absurd (two.2 (ap length (one_some two.0 one.0 (d (file_at entry c.path)) two.1 one.1) ∙ one.2))
  harm_one c Hash Hash one two = refl

  first_one : (cs : List Content) (harm other : Harm) → FirstWrong harm entry cs d → FirstWrong other entry cs d → harm ≡ other
  first_one cs harm other one two = elim (places_one one.before two.before one.at two.at one.later two.later (sym one.split ∙ two.split)) [
    | inl same ↦ harm_one two.at harm other (subst (λ c. IsWrong harm entry c d) same one.wrong) two.wrong
    | inr (inl at) ↦ (let right = two.right one.at at in absurd (not_wrong harm one.at right.0 one.wrong right.1))
    | inr (inr at) ↦ (let right = one.right two.at at in absurd (not_wrong other two.at right.0 two.wrong right.1))
  ]

  none_wrong : (cs : List Content) (harm : Harm) (files : List File) → FirstWrong harm entry cs d → Holds entry cs files d → ⊥
  none_wrong cs harm files first holds =
      let at : Contains cs first.at = subst (λ l. Contains l first.at) (sym first.split) (Contains-append_right first.before (first.at ∷ first.later) first.at (contains_first first.at first.later)) in
      let right = holds_each entry true d cs files holds first.at at in
      not_wrong harm first.at right.0 first.wrong right.1

  files_one : (files others : List File) → map content_of files ≡ map content_of others → ((f : File) → Contains files f → d (file_at entry f.path) ≡ Some f.bytes) → ((f : File) → Contains others f → d (file_at entry f.path) ≡ Some f.bytes) → files ≡ others
  files_one [] [] e one two = refl
  files_one [] (g ∷ others) e one two = (cc)
  files_one (f ∷ files) [] e one two = (cc)
  files_one (f ∷ files) (g ∷ others) e one two =
      let head : content_of f ≡ content_of g = (cc) in
      let tails : map content_of files ≡ map content_of others = (cc) in
      let path : f.path ≡ g.path = ap (λ c. c.path) head in
      let bytes : f.bytes ≡ g.bytes = one_some f.bytes g.bytes (d (file_at entry g.path)) (subst (λ p. d (file_at entry p) ≡ Some f.bytes) path (one f (contains_first f files))) (two g (contains_first g others)) in
      let rest = files_one files others tails (λ h at. one h (contains_later f h files at)) (λ h at. two h (contains_later g h others at)) in
      (λ i. record { path = path i; bytes = bytes i } ∷ rest i)

  holds_one : (cs : List Content) (files others : List File) → Holds entry cs files d → Holds entry cs others d → files ≡ others
  holds_one cs files others one two = files_one files others (one.listed ∙ sym two.listed) one.stand two.stand

-- ---- the first thing that holds

module _ (w : Wanted) (d : Disk) where
  abbrev Valid : List ℕ → List Content → Looked → Type 0
  Valid kept cs l = (files : List File) × Holds w.entry cs files d × (l ≡ looked w kept (Ok (if keeps w kept cs then Some files else None)))

  abbrev Whole : List ℕ → List Content → Looked → Type 0
  Whole kept cs l = ((harm : Harm) × FirstWrong harm w.entry cs d × (l ≡ Ok (Damaged harm))) ⊎ Valid kept cs l

  abbrev There : List ℕ → List Content → Looked → Type 0
  There kept cs l = (HasMissing w.entry cs d × (l ≡ Ok (Damaged Missing))) ⊎ (HasAll w.entry cs d × Whole kept cs l)

  abbrev Listed : List ℕ → List Content → Looked → Type 0
  Listed kept cs l = (HasExtra w.entry cs d × (l ≡ Ok (Damaged Extra))) ⊎ ((HasExtra w.entry cs d → ⊥) × There kept cs l)

  abbrev Kept : List ℕ → Looked → Type 0
  Kept kept l = (((cs : List Content) → HasList w.entry cs d → ⊥) × (l ≡ Ok (Damaged Contents))) ⊎ ((cs : List Content) × HasList w.entry cs d × Listed kept cs l)

  abbrev Standing : Looked → Type 0
  Standing l = (((kept : List ℕ) → HasText w kept d → ⊥) × (l ≡ Ok (Damaged Text))) ⊎ ((kept : List ℕ) × HasText w kept d × Kept kept l)

  abbrev Chain : Looked → Type 0
  Chain l = ((Stands d w.entry → ⊥) × (l ≡ Ok Absent)) ⊎ (Stands d w.entry × Standing l)

  -- ---- each answer is such a thing

  folder_stands : IsFolder d w.entry → Stands d w.entry
  folder_stands is = (is.0 ∷ is.1, is.2)

  file_stands : IsFile d w.entry → Stands d w.entry
  file_stands is = ([], subst (λ p. IsSome (d p)) (sym (append-nil w.entry)) is)

  no_text : IsTreeDisk d → IsFile d w.entry → (kept : List ℕ) → HasText w kept d → ⊥
  no_text tree is kept ht = none_some (d (text_at w.entry)) (tree w.entry _ [] is) (some_as kept (d (text_at w.entry)) ht.stands)

  listed_chain : (kept : List ℕ) (cs : List Content) (l : Looked) → HasText w kept d → HasList w.entry cs d → Listed kept cs l → Chain l
  listed_chain kept cs l ht hl more = inr (folder_stands ht.folder, inr (kept, ht, inr (cs, hl, more)))

  whole_chain : (kept : List ℕ) (cs : List Content) (l : Looked) → HasText w kept d → HasList w.entry cs d → HasAll w.entry cs d → Whole kept cs l → Chain l
  whole_chain kept cs l ht hl all more = listed_chain kept cs l ht hl (inr (no_extra w.entry d cs all, inr (all, more)))

  kept_same : (kept : List ℕ) (cs : List Content) (files : List File) (keep : Bool) → keeps w kept cs ≡ keep → looked w kept (Ok (if keep then Some files else None)) ≡ looked w kept (Ok (if keeps w kept cs then Some files else None))
  kept_same kept cs files keep is = ap (λ b. looked w kept (Ok (if b then Some files else None))) (sym is)

  same_text : bytes_eq w.text w.text ≡ true
  same_text = (bytes_eq-Decides w.text w.text).1 refl

  other_text : (kept : List ℕ) → kept ≢ w.text → bytes_eq kept w.text ≡ false
  other_text kept other = no_is_false (bytes_eq kept w.text) (λ e. other (same_bytes kept w.text e))

  chain : IsTreeDisk d → (l : Looked) → LookIs w l d → Chain l
  chain tree (Ok Absent) h = inl (h, refl)
  chain tree (Ok (Damaged Text)) (inl is) = inr (file_stands is, inl (no_text tree is, refl))
  chain tree (Ok (Damaged Text)) (inr h) = inr (folder_stands h.0, inl (h.1, refl))
  chain tree (Ok (Damaged Contents)) h = inr (folder_stands h.1.folder, inr (h.0, h.1, inl (h.2, refl)))
  chain tree (Ok (Damaged Extra)) h = listed_chain h.1.kept h.0 _ h.1.kept_is h.1.listed (inl (h.2, refl))
  chain tree (Ok (Damaged Missing)) h = listed_chain h.1.kept h.0 _ h.1.kept_is h.1.listed (inr (h.2, inl (h.3, refl)))
  chain tree (Ok (Damaged Size)) h = whole_chain h.1.kept h.0 _ h.1.kept_is h.1.listed h.2 (inl (Size, h.3, refl))
  chain tree (Ok (Damaged Hash)) h = whole_chain h.1.kept h.0 _ h.1.kept_is h.1.listed h.2 (inl (Hash, h.3, refl))
  chain tree (Ok (Collision kept)) (cs, files, v, other) =
      let off = other_text kept other in
      whole_chain kept cs _ v.kept_is v.listed v.all (inr (
        files,
        v.holds,
        ap (λ b. if b then Err (Bytes w.most) else Ok (Collision kept)) (sym off) ∙ kept_same kept cs files false (ap (λ b. b && nat_le (bytes_listed cs) w.most) off),
      ))
  chain tree (Ok (Hit files)) (cs, v, few) =
      whole_chain w.text cs _ v.kept_is v.listed v.all (inr (
        files,
        v.holds,
        kept_same w.text cs files true (and_from (bytes_eq w.text w.text) (nat_le (bytes_listed cs) w.most) same_text (grind (arith, nat_tests, few))),
      ))
  chain tree (Err limit) (cs, files, v, many, is) =
      let off : nat_le (bytes_listed cs) w.most ≡ false = grind (arith, nat_tests, many) in
      whole_chain w.text cs _ v.kept_is v.listed v.all (inr (
        files,
        v.holds,
        ap Err is ∙ ap (λ b. if b then Err (Bytes w.most) else Ok (Collision w.text)) (sym same_text)
            ∙ kept_same w.text cs files false (ap (λ b. b && nat_le (bytes_listed cs) w.most) same_text ∙ off),
      ))

  -- ---- and such a thing is one

  whole_one : (kept : List ℕ) (cs : List Content) (a b : Looked) → Whole kept cs a → Whole kept cs b → a ≡ b
  whole_one kept cs a b (inl x) (inl y) = x.2 ∙ ap (λ h. Ok (Damaged h)) (first_one w.entry d cs x.0 y.0 x.1 y.1) ∙ sym y.2
  whole_one kept cs a b (inl x) (inr y) = absurd (none_wrong w.entry d cs x.0 y.0 x.1 y.1)
  whole_one kept cs a b (inr x) (inl y) = absurd (none_wrong w.entry d cs y.0 x.0 y.1 x.1)
  whole_one kept cs a b (inr x) (inr y) = x.2 ∙ ap (λ files. looked w kept (Ok (if keeps w kept cs then Some files else None))) (holds_one w.entry d cs x.0 y.0 x.1 y.1) ∙ sym y.2

  there_one : (kept : List ℕ) (cs : List Content) (a b : Looked) → There kept cs a → There kept cs b → a ≡ b
  there_one kept cs a b (inl x) (inl y) = x.1 ∙ sym y.1
  there_one kept cs a b (inl x) (inr y) = absurd (none_missing w.entry d cs y.0 x.0)
  there_one kept cs a b (inr x) (inl y) = absurd (none_missing w.entry d cs x.0 y.0)
  there_one kept cs a b (inr x) (inr y) = whole_one kept cs a b x.1 y.1

  listed_one : (kept : List ℕ) (cs : List Content) (a b : Looked) → Listed kept cs a → Listed kept cs b → a ≡ b
  listed_one kept cs a b (inl x) (inl y) = x.1 ∙ sym y.1
  listed_one kept cs a b (inl x) (inr y) = absurd (y.0 x.0)
  listed_one kept cs a b (inr x) (inl y) = absurd (x.0 y.0)
  listed_one kept cs a b (inr x) (inr y) = there_one kept cs a b x.1 y.1

  kept_one : (kept : List ℕ) (a b : Looked) → Kept kept a → Kept kept b → a ≡ b
  kept_one kept a b (inl x) (inl y) = x.1 ∙ sym y.1
  kept_one kept a b (inl x) (inr y) = absurd (x.0 y.0 y.1)
  kept_one kept a b (inr x) (inl y) = absurd (y.0 x.0 x.1)
  kept_one kept a b (inr x) (inr y) = listed_one kept y.0 a b (subst (λ cs. Listed kept cs a) (list_one w.entry d x.0 y.0 x.1 y.1) x.2) y.2

  standing_one : (a b : Looked) → Standing a → Standing b → a ≡ b
  standing_one a b (inl x) (inl y) = x.1 ∙ sym y.1
  standing_one a b (inl x) (inr y) = absurd (x.0 y.0 y.1)
  standing_one a b (inr x) (inl y) = absurd (y.0 x.0 x.1)
  standing_one a b (inr x) (inr y) = kept_one y.0 a b (subst (λ k. Kept k a) (one_some x.0 y.0 (d (text_at w.entry)) x.1.stands y.1.stands) x.2) y.2

  chain_one : (a b : Looked) → Chain a → Chain b → a ≡ b
  chain_one a b (inl x) (inl y) = x.1 ∙ sym y.1
  chain_one a b (inl x) (inr y) = absurd (x.0 y.0)
  chain_one a b (inr x) (inl y) = absurd (y.0 x.0)
  chain_one a b (inr x) (inr y) = standing_one a b x.1 y.1

pub one_answer : (w : Wanted) (d : Disk) (a b : Looked) → IsTreeDisk d → LookIs w a d → LookIs w b d → a ≡ b
one_answer w d a b tree one other = chain_one w d a b (chain w d tree a one) (chain w d tree b other)
