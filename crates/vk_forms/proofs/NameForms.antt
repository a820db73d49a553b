-- Names are their own tokens.
use Rattle.std.proofs.Common.{◌≡◌, ◌≢◌, ◌⊎◌, ◌∷◌, ℕ, Bool, true, false, cond, List, [], inl, inr, refl, ap, sym, ◌∙◌, subst, arith, Decides}
use Rattle.std.specs.Prelude.{Option, Some, None, Result, Ok, Err, option_map}
use Rattle.std.specs.List.{All}
use Rattle.std.proofs.lemmas.Bool.Decides.{nat_tests}
use Rattle.std.proofs.lemmas.List.Elements.{All-head, All-tail, All-weaker}
use Rattle.vk_base.specs.Paths.{Lacks}
use Rattle.vk_spec.specs.Manifests.{core, default}
use Rattle.vk_spec.specs.Reading.{Gives}
use Rattle.vk_base.specs.declared.stops.Unread.{Unread}
use Rattle.vk_base.specs.declared.stops.Unread.TheVariants as unread
use Rattle.vk_base.specs.declared.names.NameFault.{NameFault}
use Rattle.vk_base.specs.declared.names.NameFault.TheVariants as fault
use Rattle.vk_base.specs.Names.{IsName, NameRule, is_name_byte, is_reserved, named, name_fault, reads_feature, reads_name, word_rule}
use Rattle.vk_base.proofs.FeatureLemmas.{reserved_words}
use Rattle.vk_base.specs.Stops.{fault_in}
use Rattle.vk_base.specs.Tokens.{token_of, token_byte, is_escaped}
use Rattle.vk_base.proofs.NameLemmas.{rule_from_no_fault, no_fault_from_rule}
use Rattle.vk_forms.specs.Forms.{FindsOrNot, ReadsAs}

name_byte : (rule : NameRule) (b : ℕ) → is_name_byte rule b ≡ true → token_byte b ≡ b ∷ []
name_byte rule b is = let plain : is_escaped b ≡ false = grind (arith, nat_tests) in rw plain refl

name_bytes : (rule : NameRule) (text : List ℕ) → All (λ b. is_name_byte rule b ≡ true) text → token_of text ≡ text
unfolding token_of
name_bytes rule [] all = refl
name_bytes rule (b ∷ text) all =
    rw (name_byte rule b (All-head (λ b. is_name_byte rule b ≡ true) b text all))
    (ap (λ l. b ∷ l) (name_bytes rule text (All-tail (λ b. is_name_byte rule b ≡ true) b text all)))

pub name_token : (rule : NameRule) (text : List ℕ) → IsName rule text → token_of text ≡ text
name_token rule text name = name_bytes rule text name.bytes

name-Ok : (rule : NameRule) (text name : List ℕ) (fault : Option ℕ) → name_fault rule text ≡ fault → named text fault ≡ Ok name → (name ≡ text) × IsName rule text
name-Ok rule text name None none read = ((cc), rule_from_no_fault rule text none)
name-Ok rule text name (Some at) bad read = (cc)

-- a name is read where the text is one
pub names_read : {X : Type 0} (rule : NameRule) (view : X → List ℕ) (text : List ℕ) (r : Result X (Unread NameFault)) → Gives view fault_in r (reads_name rule text)
    → (found : Option X) → FindsOrNot r found → ReadsAs token_of (IsName rule) text (option_map view found)
names_read rule view text (Ok x) read found is =
    let it = name-Ok rule text (view x) (name_fault rule text) refl read in
    subst (λ f. ReadsAs token_of (IsName rule) text (option_map view f)) (sym is)
    (rw it.0 (sym (name_token rule text it.1), it.1))
names_read rule view text (Err (unread.Fault fault)) read found is =
    subst (λ f. ReadsAs token_of (IsName rule) text (option_map view f)) (sym is)
    (λ name right e.
    let same : text ≡ name = e ∙ name_token rule name right in
    let fine : reads_name rule text ≡ Ok text = ap (named text) (no_fault_from_rule rule text (subst (IsName rule) (sym same) right)) in
    (cc))
names_read rule view text (Err (unread.Memory memory)) read found is = absurd is

unless_reserved : {P : Type 0} (test : Bool) → Decides test P → (P → ⊥) → test ≡ false
unless_reserved true decides none = absurd (none (decides.0 refl))
unless_reserved false decides none = refl

pub core_word : IsName word_rule core
core_word = rule_from_no_fault word_rule core refl

pub core_token : token_of core ≡ core
core_token = name_token word_rule core core_word

default_word : IsName word_rule default
default_word = rule_from_no_fault word_rule default refl

-- the two words that name no feature are words
pub reserved_read : (feature text : List ℕ) → feature ≡ text → (text ≡ core) ⊎ (text ≡ default) → ReadsAs token_of (IsName word_rule) text (Some feature)
reserved_read feature text same which =
    let word : IsName word_rule text = elim which [ inl is ↦ subst (IsName word_rule) (sym is) core_word | inr is ↦ subst (IsName word_rule) (sym is) default_word ] in
    rw same (sym (name_token word_rule text word), word)

free_from : (text : List ℕ) → text ≢ core → text ≢ default → is_reserved text ≡ false
free_from text not_core not_default = unless_reserved (is_reserved text) (reserved_words text) (λ which. elim which [ inl is ↦ not_core is | inr is ↦ not_default is ])

-- any other word is a feature's name
pub feature_read : {X : Type 0} (view : X → List ℕ) (text : List ℕ) (r : Result X (Unread NameFault)) → Gives view fault_in r (reads_feature text) → text ≢ core → text ≢ default
    → (found : Option X) → FindsOrNot r found → ReadsAs token_of (IsName word_rule) text (option_map view found)
feature_read view text r read not_core not_default found is =
    let free : is_reserved text ≡ false = free_from text not_core not_default in
    names_read word_rule view text r (subst (Gives view fault_in r) (ap (λ b. cond b (Err fault.Reserved) (reads_name word_rule text)) free) read) found is

-- a name has no byte that no name has
pub name_lacks : (rule : NameRule) (mark : ℕ) (text : List ℕ) → is_name_byte rule mark ≡ false → IsName rule text → Lacks mark (token_of text)
name_lacks rule mark text odd name =
    subst (Lacks mark) (sym (name_token rule text name))
    (All-weaker (λ b. is_name_byte rule b ≡ true) (λ b. b ≢ mark) (λ b is e. let clash : true ≡ false = sym is ∙ ap (is_name_byte rule) e ∙ odd in (cc)) text name.bytes)
