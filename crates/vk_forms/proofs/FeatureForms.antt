-- Features are read between commas.
use Rattle.std.proofs.Common.{◌≡◌, ◌≢◌, ◌==◌, ◌++◌, ◌∷◌, ℕ, true, false, List, [], length, map, ◌⊎◌, inl, inr, refl, ap, sym, ◌∙◌, subst, append_assoc, arith, codes}
use Rattle.std.specs.Prelude.{Option, Some, None, Result, Ok, Err}
use Rattle.std.proofs.lemmas.List.{map-append}
use Rattle.vk_spec.specs.Reading.{Gives}
use Rattle.vk_base.specs.Stops.{fault_in}
use Rattle.vk_base.specs.declared.stops.Unread.{Unread}
use Rattle.vk_base.specs.declared.stops.Unread.TheVariants as unread
use Rattle.vk_base.specs.declared.names.NameFault.{NameFault}
use Rattle.vk_base.proofs.FeatureLemmas.{feature-holds, feature-only, feature-same}
use Rattle.std.specs.List.{All, join_with_byte}
use Rattle.std.proofs.lemmas.Bool.Decides.{nat_tests}
use Rattle.std.proofs.lemmas.List.Elements.{All-weaker}
use Rattle.std.proofs.lemmas.List.Splits.{slice_split_at, slice_split_none, length-slice_split, join_with_byte-slice_split}
use Rattle.vk_spec.specs.Manifests.{core}
use Rattle.vk_base.specs.Names.{IsFeatureName, reads_feature, word_rule}
use Rattle.vk_base.specs.Paths.{Lacks}
use Rattle.vk_base.specs.Tokens.{token_of}
use Rattle.vk_base.proofs.PathLemmas.{lacks_byte}
use Rattle.vk_model.specs.Lines.{features_text}
use Rattle.vk_forms.specs.Features.{AreAbove, AreFeatures, PutsAbove, ReadsNamed, between_commas}
use Rattle.vk_forms.specs.Forms.{FindsOrNot, ReadsAs}
use Rattle.vk_forms.proofs.NameForms.{core_token, name_lacks, name_token}
use Rattle.vk_forms.proofs.PairForms.{lacks_none, same_pair}

no_comma : (text : List ℕ) → Lacks 44 text → All (λ b. (b == 44) ≡ false) text
no_comma text lacks = All-weaker (λ b. b ≢ 44) (λ b. (b == 44) ≡ false) (λ b other. grind (arith, nat_tests)) text lacks

pub commas_first : (text first rest : List ℕ) → text ≡ first ++ 44 ∷ rest → Lacks 44 first → between_commas text ≡ first ∷ between_commas rest
commas_first text first rest e lacks = ap between_commas e ∙ slice_split_at (λ b. b == 44) first 44 rest (no_comma first lacks) refl

pub commas_last : (text : List ℕ) → Lacks 44 text → between_commas text ≡ text ∷ []
commas_last text lacks = slice_split_none (λ b. b == 44) text (no_comma text lacks)

-- ---- going along

-- what is read and what is left are what there was; they are right together or not at all
pub record GoesAlong (text last rest : List ℕ) (features : List (List ℕ)) : Type 0 where
  pub all : features ++ between_commas rest ≡ core ∷ between_commas text
  pub on : AreAbove [] (between_commas text) → AreAbove last (between_commas rest)
  pub back : AreAbove last (between_commas rest) → AreAbove [] (between_commas text)

pub along_from : (text : List ℕ) (features : List (List ℕ)) → features ≡ core ∷ [] → GoesAlong text [] text features
along_from text features e = record { all = ap (λ l. l ++ between_commas text) e; on = λ all. all; back = λ all. all }

append_one : (before : List (List ℕ)) (f : List ℕ) (after : List (List ℕ)) → (before ++ f ∷ []) ++ after ≡ before ++ f ∷ after
append_one before f after = append_assoc before (f ∷ []) after

pub along_more : (text last rest front after : List ℕ) (before now : List (List ℕ)) → GoesAlong text last rest before → rest ≡ front ++ 44 ∷ after → Lacks 44 front → PutsAbove last front before now true → GoesAlong text front after now
along_more text last rest front after before now along cut lacks put =
    let first = commas_first rest front after cut lacks in record {
      all = ap (λ l. l ++ between_commas after) put.2 ∙ append_one before front (between_commas after) ∙ ap (λ l. before ++ l) (sym first) ∙ along.all;
      on = λ all. (subst (AreAbove last) first (along.on all)).2;
      back = λ all. along.back (subst (AreAbove last) (sym first) (put.0, put.1, all));
    }

pub along_stops : (text last rest front after : List ℕ) (before now : List (List ℕ)) → GoesAlong text last rest before → rest ≡ front ++ 44 ∷ after → Lacks 44 front → PutsAbove last front before now false → ReadsNamed text None
along_stops text last rest front after before now along cut lacks none = λ all.
    let here = subst (AreAbove last) (commas_first rest front after cut lacks) (along.on all) in
    none here.0 here.1

pub along_ends : (text last rest : List ℕ) (before now : List (List ℕ)) → GoesAlong text last rest before → Lacks 44 rest → PutsAbove last rest before now true → ReadsNamed text (Some now)
along_ends text last rest before now along lacks put =
    let only = commas_last rest lacks in (
      put.2 ∙ ap (λ l. before ++ l) (sym only) ∙ along.all,
      along.back (subst (AreAbove last) (sym only) (put.0, put.1, tt)),
    )

pub along_fails : (text last rest : List ℕ) (before now : List (List ℕ)) → GoesAlong text last rest before → Lacks 44 rest → PutsAbove last rest before now false → ReadsNamed text None
along_fails text last rest before now along lacks none = λ all.
    let here = subst (AreAbove last) (commas_last rest lacks) (along.on all) in
    none here.0 here.1

-- ---- what is printed

above_tokens : (last : List ℕ) (fs : List (List ℕ)) → AreAbove last fs → map token_of fs ≡ fs
above_tokens last [] all = refl
above_tokens last (f ∷ fs) all = rw (name_token word_rule f all.0.word) (ap (λ l. f ∷ l) (above_tokens f fs all.2))

-- features are their own tokens
pub features_plain : (fs : List (List ℕ)) → AreFeatures fs → features_text fs ≡ join_with_byte 44 fs
features_plain [] all = refl
features_plain (f ∷ fs) all =
    ap (λ l. join_with_byte 44 (token_of f ∷ l)) (above_tokens [] fs all.1)
    ∙ ap (λ l. join_with_byte 44 (l ∷ fs)) (ap token_of all.0 ∙ core_token ∙ sym all.0)

joined_more : (f : List ℕ) (fs : List (List ℕ)) → fs ≢ [] → join_with_byte 44 (f ∷ fs) ≡ f ++ 44 ∷ join_with_byte 44 fs
joined_more f [] some = absurd (some refl)
joined_more f (g ∷ fs) some = refl

feature_lacks : (f : List ℕ) → IsFeatureName f → Lacks 44 f
feature_lacks f name = subst (Lacks 44) (name_token word_rule f name.word) (name_lacks word_rule 44 f refl name.word)

-- what stands between commas that were put there
above_again : (last : List ℕ) (fs : List (List ℕ)) → AreAbove last fs → fs ≢ [] → between_commas (join_with_byte 44 fs) ≡ fs
above_again last [] all some = absurd (some refl)
above_again last (f ∷ []) all some = commas_last f (feature_lacks f all.0)
above_again last (f ∷ g ∷ fs) all some =
    commas_first (join_with_byte 44 (f ∷ g ∷ fs)) f (join_with_byte 44 (g ∷ fs)) refl (feature_lacks f all.0)
    ∙ ap (λ l. f ∷ l) (above_again f (g ∷ fs) all.2 (λ e. (cc)))

some_commas : (text : List ℕ) → between_commas text ≢ []
some_commas text e = absurd (omega (arith, length-slice_split (λ b. b == 44) text, ap length e))

pub core_read : (text : List ℕ) (fs : List (List ℕ)) → text ≡ codes "core" → fs ≡ core ∷ [] → ReadsAs features_text AreFeatures text (Some fs)
core_read text fs e is = subst (λ l. (text ≡ features_text l) × AreFeatures l) (sym is) (e ∙ sym core_token, (refl, tt))

named_some : (text first rest : List ℕ) → text ≡ first ++ 44 ∷ rest → first ≡ core → (fs : List (List ℕ)) → ReadsNamed rest (Some fs) → ReadsAs features_text AreFeatures text (Some fs)
named_some text first rest cut is fs read =
    let right : AreFeatures (core ∷ between_commas rest) = (refl, read.1) in
    let same : text ≡ features_text (core ∷ between_commas rest) =
    cut ∙ ap (λ l. l ++ 44 ∷ rest) is ∙ ap (λ l. core ++ 44 ∷ l) (sym (join_with_byte-slice_split 44 rest))
    ∙ sym (joined_more core (between_commas rest) (some_commas rest)) ∙ sym (features_plain (core ∷ between_commas rest) right) in
    subst (λ l. (text ≡ features_text l) × AreFeatures l) (sym read.0) (same, right)

-- a right list is `core` alone, or it goes on after a comma
right_text : (fs : List (List ℕ)) → AreFeatures fs → (features_text fs ≡ codes "core") ⊎ ((gs : List (List ℕ)) × ((features_text fs ≡ core ++ 44 ∷ join_with_byte 44 gs) × AreAbove [] gs × (gs ≢ [])))
right_text [] all = absurd all
right_text (f ∷ []) all = inl (features_plain (f ∷ []) all ∙ all.0)
right_text (f ∷ g ∷ gs) all = inr (g ∷ gs, (features_plain (f ∷ g ∷ gs) all ∙ ap (λ l. l ++ 44 ∷ join_with_byte 44 (g ∷ gs)) all.0, all.1, λ e. (cc)))

core_lacks : Lacks 44 core
core_lacks = lacks_byte 44 core refl

-- features are what stands between their commas
pub features_again : (fs : List (List ℕ)) → AreFeatures fs → between_commas (features_text fs) ≡ fs
features_again [] all = absurd all
features_again (f ∷ []) all = ap between_commas (features_plain (f ∷ []) all ∙ all.0) ∙ commas_last core core_lacks ∙ ap (λ l. l ∷ []) (sym all.0)
features_again (f ∷ g ∷ gs) all =
    commas_first (features_text (f ∷ g ∷ gs)) f (join_with_byte 44 (g ∷ gs)) (features_plain (f ∷ g ∷ gs) all) (subst (Lacks 44) (sym all.0) core_lacks)
    ∙ ap (λ l. f ∷ l) (above_again [] (g ∷ gs) all.1 (λ e. (cc)))

named_none : (text first rest : List ℕ) → text ≡ first ++ 44 ∷ rest → Lacks 44 first → text ≢ codes "core" → ReadsNamed rest None → ReadsAs features_text AreFeatures text None
named_none text first rest cut lacks not_core none fs right e = elim (right_text fs right) [
  | inl alone ↦ not_core (e ∙ alone)
  | inr more ↦
      let same = same_pair 44 first core rest (join_with_byte 44 more.0) lacks core_lacks (sym cut ∙ e ∙ more.1.0) in
      none (subst (AreAbove []) (sym (ap between_commas same.1 ∙ above_again [] more.0 more.1.1 more.1.2)) more.1.1)
]

-- what follows the first comma
pub named_read : (text first rest : List ℕ) → text ≡ first ++ 44 ∷ rest → Lacks 44 first → text ≢ codes "core" → first ≡ core → (found : Option (List (List ℕ))) → ReadsNamed rest found → ReadsAs features_text AreFeatures text found
named_read text first rest cut lacks not_core is (Some fs) read = named_some text first rest cut is fs read
named_read text first rest cut lacks not_core is None read = named_none text first rest cut lacks not_core read

pub other_first : (text first rest : List ℕ) → text ≡ first ++ 44 ∷ rest → Lacks 44 first → text ≢ codes "core" → first ≢ core → ReadsAs features_text AreFeatures text None
other_first text first rest cut lacks not_core other fs right e = elim (right_text fs right) [
  | inl alone ↦ not_core (e ∙ alone)
  | inr more ↦ other (same_pair 44 first core rest (join_with_byte 44 more.0) lacks core_lacks (sym cut ∙ e ∙ more.1.0)).0
]

pub no_first : (text : List ℕ) → Lacks 44 text → text ≢ codes "core" → ReadsAs features_text AreFeatures text None
no_first text lacks not_core fs right e = elim (right_text fs right) [
  | inl alone ↦ not_core (e ∙ alone)
  | inr more ↦ lacks_none 44 core (join_with_byte 44 more.0) (subst (Lacks 44) (e ∙ more.1.0) lacks)
]

-- ---- a name that may be put

pub name_none : {X : Type 0} (view : X → List ℕ) (text : List ℕ) (r : Result X (Unread NameFault)) → Gives view fault_in r (reads_feature text) → (found : Option X) → FindsOrNot r found → found ≡ None → IsFeatureName text → ⊥
name_none view text (Ok x) read found is none name = let clash : Some x ≡ None = sym is ∙ none in (cc)
name_none view text (Err (unread.Fault fault)) read found is none name = let fine = feature-only text name in (cc)
name_none view text (Err (unread.Memory memory)) read found is none name = absurd is

is_some : {X : Type 0} (y x : X) → Some y ≡ Some x → y ≡ x
is_some y x e = (cc)

pub name_some : {X : Type 0} (view : X → List ℕ) (text : List ℕ) (r : Result X (Unread NameFault)) → Gives view fault_in r (reads_feature text) → (found : Option X) → FindsOrNot r found → (x : X) → found ≡ Some x → IsFeatureName text × (view x ≡ text)
name_some view text (Ok y) read found is x some =
    let same = is_some y x (sym is ∙ some) in
    (feature-holds text (view y) read, ap view (sym same) ∙ feature-same text (view y) read)
name_some view text (Err (unread.Fault fault)) read found is x some = absurd (let clash : None ≡ Some x = sym is ∙ some in (cc))
name_some view text (Err (unread.Memory memory)) read found is x some = absurd is

pub put_last : {X : Type 0} (view : X → List ℕ) (before now : List X) (x : X) (text : List ℕ) → now ≡ before ++ x ∷ [] → view x ≡ text → map view now ≡ map view before ++ text ∷ []
put_last view before now x text put is = ap (map view) put ∙ map-append view before (x ∷ []) ∙ ap (λ l. map view before ++ l ∷ []) is
