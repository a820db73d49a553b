-- A feature's name is a word that is neither `core` nor `default`.
use Rattle.std.proofs.Common.{◌≡◌, ◌⊎◌, ℕ, Bool, true, false, cond, List, inl, inr, refl, ap, ◌∙◌, Decides}
use Rattle.std.specs.Prelude.{Option, Some, None, Result, Ok, Err, bytes_eq}
use Rattle.std.proofs.lemmas.Bool.Decides.{Decides-or, not_from_Decides}
use Rattle.std.proofs.lemmas.Slice.Eq.{bytes_eq-Decides}
use Rattle.vk_spec.specs.Manifests.{core, default}
use Rattle.vk_base.specs.declared.names.NameFault.{NameFault}
use Rattle.vk_base.specs.declared.names.NameFault.TheVariants as fault
use Rattle.vk_base.specs.Names.{named, is_reserved, reads_name, reads_feature, word_rule, name_fault, BreaksFirst, IsFeatureName}
use Rattle.vk_base.proofs.NameLemmas.{rule_from_no_fault, no_fault_from_rule, breaks_first}

named-Ok : (text name : List ℕ) (found : Option ℕ) → named text found ≡ Ok name → (found ≡ None) × (name ≡ text)
named-Ok text name None e = (refl, (cc))
named-Ok text name (Some at) e = (cc)

named-bad : (text : List ℕ) (at : ℕ) (found : Option ℕ) → named text found ≡ Err (fault.Bad at) → found ≡ Some at
named-bad text at None e = (cc)
named-bad text at (Some other) e = (cc)

-- what the answer says of the test that came first
read_on : (test : Bool) (rest : Result (List ℕ) NameFault) (name : List ℕ) → cond test (Err fault.Reserved) rest ≡ Ok name → (test ≡ false) × (rest ≡ Ok name)
read_on true rest name e = (cc)
read_on false rest name e = (refl, e)

bad_on : (test : Bool) (rest : Result (List ℕ) NameFault) (at : ℕ) → cond test (Err fault.Reserved) rest ≡ Err (fault.Bad at) → rest ≡ Err (fault.Bad at)
bad_on true rest at e = (cc)
bad_on false rest at e = e

stopped : (test : Bool) (text : List ℕ) (found : Option ℕ) → cond test (Err fault.Reserved) (named text found) ≡ Err fault.Reserved → test ≡ true
stopped true text found e = refl
stopped false text None e = (cc)
stopped false text (Some at) e = (cc)

-- a test whose fact fails
fails : {P : Type 0} (test : Bool) → Decides test P → (P → ⊥) → test ≡ false
fails true decides none = absurd (none (decides.0 refl))
fails false decides none = refl

-- the two words are reserved, and no others
pub reserved_words : (text : List ℕ) → Decides (is_reserved text) ((text ≡ core) ⊎ (text ≡ default))
reserved_words text = Decides-or (bytes_eq text core) (bytes_eq text default) (bytes_eq-Decides text core) (bytes_eq-Decides text default)

pub feature-holds : (text name : List ℕ) → reads_feature text ≡ Ok name → IsFeatureName text
feature-holds text name e =
    let read = read_on (is_reserved text) (reads_name word_rule text) name e in
    let free = not_from_Decides (is_reserved text) (reserved_words text) read.0 in
    record {
      word = rule_from_no_fault word_rule text (named-Ok text name (name_fault word_rule text) read.1).0;
      not_core = λ same. free (inl same);
      not_default = λ same. free (inr same);
    }

pub feature-same : (text name : List ℕ) → reads_feature text ≡ Ok name → name ≡ text
feature-same text name e = (named-Ok text name (name_fault word_rule text) (read_on (is_reserved text) (reads_name word_rule text) name e).1).1

pub feature-only : (text : List ℕ) → IsFeatureName text → reads_feature text ≡ Ok text
feature-only text name =
    let free = fails (is_reserved text) (reserved_words text) (λ word. elim word [ inl same ↦ name.not_core same | inr same ↦ name.not_default same ]) in
    ap (λ b. cond b (Err fault.Reserved) (reads_name word_rule text)) free ∙ ap (named text) (no_fault_from_rule word_rule text name.word)

pub reserved-only : (text : List ℕ) → reads_feature text ≡ Err fault.Reserved → (text ≡ core) ⊎ (text ≡ default)
reserved-only text e = (reserved_words text).0 (stopped (is_reserved text) text (name_fault word_rule text) e)

pub reserved-from : (text : List ℕ) → (text ≡ core) ⊎ (text ≡ default) → reads_feature text ≡ Err fault.Reserved
reserved-from text word = ap (λ b. cond b (Err fault.Reserved) (reads_name word_rule text)) ((reserved_words text).1 word)

pub bad-first : (text : List ℕ) (at : ℕ) → reads_feature text ≡ Err (fault.Bad at) → BreaksFirst word_rule text at
bad-first text at e = breaks_first word_rule text at (named-bad text at (name_fault word_rule text) (bad_on (is_reserved text) (reads_name word_rule text) at e))
