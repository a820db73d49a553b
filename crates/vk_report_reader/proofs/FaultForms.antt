-- Faults are put together from the parts of their lines.
use Rattle.std.proofs.Common.{◌≡◌, ◌++◌, ◌∷◌, ℕ, List, [], refl, ap, sym, ◌∙◌, append_assoc, codes, arith}
use Rattle.std.specs.Prelude.{Option, Some, None, decimal}
use Rattle.vk_spec.specs.Versions as plain
use Rattle.vk_spec.specs.Versions.{ask_of}
use Rattle.vk_base.specs.Names.{IsName, port_rule, word_rule}
use Rattle.vk_base.specs.Paths.{Lacks}
use Rattle.vk_base.specs.Printed.{field_word, path_text, version_text}
use Rattle.vk_base.specs.Tokens.{token_of}
use Rattle.vk_base.proofs.PathLemmas.{lacks_byte}
use Rattle.vk_json.specs.Places.{place_text}
use Rattle.vk_json.specs.Words.{HasSmallNumber, word_of}
use Rattle.vk_spec.specs.Pages.{Field}
use Rattle.vk_spec.specs.Paths.{Path}
use Rattle.vk_json.specs.declared.faults.Why.{Why}
use Rattle.vk_resolution.specs.Settings.{Who, root, inst}
use Rattle.vk_resolution.specs.Faults.{Fault, conflicts, differs, has_cycle, isnt_supported, lacks_baseline, lacks_feature, lacks_registry, lacks_version, troubled, unreadable}
use Rattle.vk_resolution.specs.Lines.{fault_line, version_or_none}
use Rattle.vk_forms.specs.Lines.{IsLine}
use Rattle.vk_forms.specs.Forms.{pair_text, IsRightPair}
use Rattle.vk_forms.specs.Names.{IsPortIfAny, IsRightWho, port_or_root, who_of}
use Rattle.vk_forms.specs.Paths.{IsPlace, IsRightPath}
use Rattle.vk_forms.specs.Texts.{IsText}
use Rattle.vk_forms.specs.Versions.{IsRightAsk, IsRightIfAny, IsRightVersion}
use Rattle.vk_report_reader.specs.Faults.{BadFileParts, ConflictParts, DisagreesParts, IsBadFile, IsConflict, IsDisagrees, IsNoBaseline, IsNoFeature, IsNoRegistry, IsNoVersion, IsRightAnd, IsRightFault, IsUnsupported, NoBaselineParts, NoFeatureParts, NoRegistryParts, NoVersionParts, UnsupportedParts, bad_file_fault, conflict_fault, disagrees_fault, no_baseline_fault, no_feature_fault, no_registry_fault, no_version_fault, unsupported_fault}
use Rattle.vk_forms.specs.Words.{Any}
use Rattle.vk_forms.proofs.NameForms.{name_lacks}
use Rattle.vk_forms.proofs.Numbers.{decimal_lacks}
use Rattle.vk_forms.proofs.PathForms.{path_blank, place_blank}
use Rattle.vk_report_reader.proofs.Spaced.{spaced2, spaced3, spaced4}
use Rattle.vk_forms.proofs.TextForms.{text_blank}
use Rattle.vk_forms.proofs.Through.{AreParts}
use Rattle.vk_forms.proofs.VersionForms.{version_blank}
use Rattle.vk_forms.proofs.WordForms.{field_plain, plain_blank, why_blank}

if_any_blank : (version : Option plain.Version) → IsRightIfAny version → Lacks 32 (version_or_none version)
if_any_blank None right = lacks_byte 32 (codes "-") refl
if_any_blank (Some v) right = version_blank (ask_of v) right.ask

port_blank : (port : Option (List ℕ)) → IsPortIfAny port → Lacks 32 (port_or_root port)
port_blank None right = lacks_byte 32 (codes ".") refl
port_blank (Some p) right = name_lacks port_rule 32 p refl right

who_right : (port : Option (List ℕ)) (t : List ℕ) → IsPortIfAny port → IsName word_rule t → IsRightWho (who_of port t)
who_right None t port triplet = triplet
who_right (Some p) t port triplet = (port, triplet)

-- who is a port or the root, and a triplet
abbrev port_in : Who → Option (List ℕ)
port_in (root t) = None
port_in (inst i) = Some i.port

abbrev triplet_in : Who → List ℕ
triplet_in (root t) = t
triplet_in (inst i) = i.triplet

who_again : (who : Who) → who_of (port_in who) (triplet_in who) ≡ who
who_again (root t) = refl
who_again (inst i) = refl

port_right : (who : Who) → IsRightWho who → IsPortIfAny (port_in who)
port_right (root t) right = tt
port_right (inst i) right = right.0

triplet_right : (who : Who) → IsRightWho who → IsName word_rule (triplet_in who)
triplet_right (root t) right = right
triplet_right (inst i) right = right.1

abbrev who_spaced : Option (List ℕ) → List ℕ → List ℕ
who_spaced None t = 46 ∷ 32 ∷ t
who_spaced (Some p) t = (token_of p ++ 32 ∷ []) ++ t

conflict_spaced : (p v n w m : List ℕ) → (((((p ++ 32 ∷ []) ++ v) ++ 32 ∷ n) ++ 32 ∷ []) ++ w) ++ 32 ∷ m ≡ p ++ 32 ∷ (v ++ 32 ∷ (n ++ 32 ∷ (w ++ 32 ∷ m)))
conflict_spaced p v n w m =
    append_assoc ((((p ++ 32 ∷ []) ++ v) ++ 32 ∷ n) ++ 32 ∷ []) w (32 ∷ m)
    ∙ spaced2 (((p ++ 32 ∷ []) ++ v) ++ 32 ∷ n) (w ++ 32 ∷ m)
    ∙ append_assoc ((p ++ 32 ∷ []) ++ v) (32 ∷ n) (32 ∷ (w ++ 32 ∷ m))
    ∙ append_assoc (p ++ 32 ∷ []) v (32 ∷ (n ++ 32 ∷ (w ++ 32 ∷ m)))
    ∙ spaced2 p (v ++ 32 ∷ (n ++ 32 ∷ (w ++ 32 ∷ m)))

judged_spaced : (port : Option (List ℕ)) (t f v n : List ℕ) → ((((who_spaced port t ++ 32 ∷ []) ++ f) ++ 32 ∷ []) ++ v) ++ 32 ∷ n ≡ port_or_root port ++ 32 ∷ (t ++ 32 ∷ (f ++ 32 ∷ (v ++ 32 ∷ n)))
judged_spaced None t f v n = ap (λ l. 46 ∷ 32 ∷ l) (append_assoc (((t ++ 32 ∷ []) ++ f) ++ 32 ∷ []) v (32 ∷ n) ∙ spaced3 t f (v ++ 32 ∷ n))
judged_spaced (Some p) t f v n = append_assoc (((((token_of p ++ 32 ∷ []) ++ t) ++ 32 ∷ []) ++ f) ++ 32 ∷ []) v (32 ∷ n) ∙ spaced4 (token_of p) t f (v ++ 32 ∷ n)

-- ---- no-registry

abbrev pub no_registry_text : NoRegistryParts → List ℕ
no_registry_text = pair_text 32 (λ u. codes "no-registry") (pair_text 32 token_of decimal)

abbrev pub AreNoRegistryParts : NoRegistryParts → Type 0
AreNoRegistryParts = IsRightPair 32 (λ u. codes "no-registry") Any (IsRightPair 32 token_of (IsName port_rule) IsLine)

no_registry_same : (a : List ℕ) (b : ℕ) → no_registry_text (tt, (a, b)) ≡ fault_line (no_registry_fault (tt, (a, b)))
no_registry_same a b = refl

no_registry_of : (x : Fault) → IsNoRegistry x → IsRightFault x → (p : NoRegistryParts) × (AreNoRegistryParts p × (fault_line x ≡ no_registry_text p) × (x ≡ no_registry_fault p))
no_registry_of (troubled (lacks_registry a) b) is right = (
  (tt, (a, b)),
  (
    (tt, lacks_byte 32 (codes "no-registry") refl, (right.0, name_lacks port_rule 32 a refl right.0, right.1)),
    sym (no_registry_same a b),
    refl,
  ),
)
no_registry_of (troubled (lacks_baseline p) n) is right = absurd is
no_registry_of (troubled (unreadable path place word) n) is right = absurd is
no_registry_of (troubled (lacks_version p ask) n) is right = absurd is
no_registry_of (troubled (differs path field row manifest) n) is right = absurd is
no_registry_of (conflicts p v n w m) is right = absurd is
no_registry_of (lacks_feature who f v n) is right = absurd is
no_registry_of (isnt_supported who f v n) is right = absurd is
no_registry_of (has_cycle walk) is right = absurd is

pub no_registry_parts_are : AreParts no_registry_text AreNoRegistryParts fault_line (IsRightAnd IsNoRegistry) no_registry_fault
no_registry_parts_are = record {
  made = λ p right. (no_registry_same p.1.0 p.1.1, (tt, (right.2.0, right.2.2)));
  parts = λ x fine. no_registry_of x fine.0 fine.1;
}

-- ---- no-baseline

abbrev pub no_baseline_text : NoBaselineParts → List ℕ
no_baseline_text = pair_text 32 (λ u. codes "no-baseline") (pair_text 32 token_of decimal)

abbrev pub AreNoBaselineParts : NoBaselineParts → Type 0
AreNoBaselineParts = IsRightPair 32 (λ u. codes "no-baseline") Any (IsRightPair 32 token_of (IsName port_rule) IsLine)

no_baseline_same : (a : List ℕ) (b : ℕ) → no_baseline_text (tt, (a, b)) ≡ fault_line (no_baseline_fault (tt, (a, b)))
no_baseline_same a b = refl

no_baseline_of : (x : Fault) → IsNoBaseline x → IsRightFault x → (p : NoBaselineParts) × (AreNoBaselineParts p × (fault_line x ≡ no_baseline_text p) × (x ≡ no_baseline_fault p))
no_baseline_of (troubled (lacks_baseline a) b) is right = (
  (tt, (a, b)),
  (
    (tt, lacks_byte 32 (codes "no-baseline") refl, (right.0, name_lacks port_rule 32 a refl right.0, right.1)),
    sym (no_baseline_same a b),
    refl,
  ),
)
no_baseline_of (troubled (lacks_registry p) n) is right = absurd is
no_baseline_of (troubled (unreadable path place word) n) is right = absurd is
no_baseline_of (troubled (lacks_version p ask) n) is right = absurd is
no_baseline_of (troubled (differs path field row manifest) n) is right = absurd is
no_baseline_of (conflicts p v n w m) is right = absurd is
no_baseline_of (lacks_feature who f v n) is right = absurd is
no_baseline_of (isnt_supported who f v n) is right = absurd is
no_baseline_of (has_cycle walk) is right = absurd is

pub no_baseline_parts_are : AreParts no_baseline_text AreNoBaselineParts fault_line (IsRightAnd IsNoBaseline) no_baseline_fault
no_baseline_parts_are = record {
  made = λ p right. (no_baseline_same p.1.0 p.1.1, (tt, (right.2.0, right.2.2)));
  parts = λ x fine. no_baseline_of x fine.0 fine.1;
}

-- ---- bad-file

abbrev pub bad_file_text : BadFileParts → List ℕ
bad_file_text = pair_text 32 (λ u. codes "bad-file") (pair_text 32 path_text (pair_text 32 place_text (pair_text 32 word_of decimal)))

abbrev pub AreBadFileParts : BadFileParts → Type 0
AreBadFileParts = IsRightPair 32 (λ u. codes "bad-file") Any (IsRightPair 32 path_text IsRightPath (IsRightPair 32 place_text IsPlace (IsRightPair 32 word_of HasSmallNumber IsLine)))

pub bad_file_spaced : (a : Path) (b word : List ℕ) (d : ℕ) → codes "bad-file" ++ 32 ∷ (path_text a ++ 32 ∷ (place_text b ++ 32 ∷ (word ++ 32 ∷ decimal d))) ≡ fault_line (troubled (unreadable a b word) d)
bad_file_spaced a b word d = sym (ap (λ l. codes "bad-file " ++ l) (append_assoc (((path_text a ++ 32 ∷ []) ++ place_text b) ++ 32 ∷ []) word (32 ∷ decimal d) ∙ spaced3 (path_text a) (place_text b) (word ++ 32 ∷ decimal d)))

bad_file_same : (a : Path) (b : List ℕ) (c : Why) (d : ℕ) → bad_file_text (tt, (a, (b, (c, d)))) ≡ fault_line (bad_file_fault (tt, (a, (b, (c, d)))))
bad_file_same a b c d = bad_file_spaced a b (word_of c) d

bad_file_of : (x : Fault) → IsBadFile x → IsRightFault x → (p : BadFileParts) × (AreBadFileParts p × (fault_line x ≡ bad_file_text p) × (x ≡ bad_file_fault p))
bad_file_of (troubled (unreadable a b word) d) is right = (
  (tt, (a, (b, (right.0.2.why, d)))),
  (
    (tt, lacks_byte 32 (codes "bad-file") refl, (right.0.0, path_blank a right.0.0, (right.0.1, place_blank b right.0.1, (right.0.2.small, why_blank right.0.2.why right.0.2.small, right.1)))),
    ap (λ w. fault_line (troubled (unreadable a b w) d)) right.0.2.is ∙ sym (bad_file_same a b right.0.2.why d),
    ap (λ w. troubled (unreadable a b w) d) right.0.2.is,
  ),
)
bad_file_of (troubled (lacks_registry p) n) is right = absurd is
bad_file_of (troubled (lacks_baseline p) n) is right = absurd is
bad_file_of (troubled (lacks_version p ask) n) is right = absurd is
bad_file_of (troubled (differs path field row manifest) n) is right = absurd is
bad_file_of (conflicts p v n w m) is right = absurd is
bad_file_of (lacks_feature who f v n) is right = absurd is
bad_file_of (isnt_supported who f v n) is right = absurd is
bad_file_of (has_cycle walk) is right = absurd is

pub bad_file_parts_are : AreParts bad_file_text AreBadFileParts fault_line (IsRightAnd IsBadFile) bad_file_fault
bad_file_parts_are = record {
  made = λ p right. (bad_file_same p.1.0 p.1.1.0 p.1.1.1.0 p.1.1.1.1, (tt, ((right.2.0, right.2.2.0, record { why = p.1.1.1.0; small = right.2.2.2.0; is = refl }), right.2.2.2.2)));
  parts = λ x fine. bad_file_of x fine.0 fine.1;
}

-- ---- no-version

abbrev pub no_version_text : NoVersionParts → List ℕ
no_version_text = pair_text 32 (λ u. codes "no-version") (pair_text 32 token_of (pair_text 32 version_text decimal))

abbrev pub AreNoVersionParts : NoVersionParts → Type 0
AreNoVersionParts = IsRightPair 32 (λ u. codes "no-version") Any (IsRightPair 32 token_of (IsName port_rule) (IsRightPair 32 version_text IsRightAsk IsLine))

no_version_same : (a : List ℕ) (b : plain.Ask) (c : ℕ) → no_version_text (tt, (a, (b, c))) ≡ fault_line (no_version_fault (tt, (a, (b, c))))
no_version_same a b c = sym (ap (λ l. codes "no-version " ++ l) (append_assoc (token_of a ++ 32 ∷ []) (version_text b) (32 ∷ decimal c) ∙ spaced2 (token_of a) (version_text b ++ 32 ∷ decimal c)))

no_version_of : (x : Fault) → IsNoVersion x → IsRightFault x → (p : NoVersionParts) × (AreNoVersionParts p × (fault_line x ≡ no_version_text p) × (x ≡ no_version_fault p))
no_version_of (troubled (lacks_version a b) c) is right = (
  (tt, (a, (b, c))),
  (
    (tt, lacks_byte 32 (codes "no-version") refl, (right.0.0, name_lacks port_rule 32 a refl right.0.0, (right.0.1, version_blank b right.0.1, right.1))),
    sym (no_version_same a b c),
    refl,
  ),
)
no_version_of (troubled (lacks_registry p) n) is right = absurd is
no_version_of (troubled (lacks_baseline p) n) is right = absurd is
no_version_of (troubled (unreadable path place word) n) is right = absurd is
no_version_of (troubled (differs path field row manifest) n) is right = absurd is
no_version_of (conflicts p v n w m) is right = absurd is
no_version_of (lacks_feature who f v n) is right = absurd is
no_version_of (isnt_supported who f v n) is right = absurd is
no_version_of (has_cycle walk) is right = absurd is

pub no_version_parts_are : AreParts no_version_text AreNoVersionParts fault_line (IsRightAnd IsNoVersion) no_version_fault
no_version_parts_are = record {
  made = λ p right. (no_version_same p.1.0 p.1.1.0 p.1.1.1, (tt, ((right.2.0, right.2.2.0), right.2.2.2)));
  parts = λ x fine. no_version_of x fine.0 fine.1;
}

-- ---- disagrees

abbrev pub disagrees_text : DisagreesParts → List ℕ
disagrees_text = pair_text 32 (λ u. codes "disagrees") (pair_text 32 path_text (pair_text 32 field_word (pair_text 32 token_of (pair_text 32 token_of decimal))))

abbrev pub AreDisagreesParts : DisagreesParts → Type 0
AreDisagreesParts = IsRightPair 32 (λ u. codes "disagrees") Any (IsRightPair 32 path_text IsRightPath (IsRightPair 32 field_word (λ field. Unit {0}) (IsRightPair 32 token_of IsText (IsRightPair 32 token_of IsText IsLine))))

disagrees_same : (a : Path) (b : Field) (c : List ℕ) (d : List ℕ) (e : ℕ) → disagrees_text (tt, (a, (b, (c, (d, e))))) ≡ fault_line (disagrees_fault (tt, (a, (b, (c, (d, e))))))
disagrees_same a b c d e = sym (ap (λ l. codes "disagrees " ++ l) (append_assoc (((((path_text a ++ 32 ∷ []) ++ field_word b) ++ 32 ∷ []) ++ token_of c) ++ 32 ∷ []) (token_of d) (32 ∷ decimal e) ∙ spaced4 (path_text a) (field_word b) (token_of c) (token_of d ++ 32 ∷ decimal e)))

disagrees_of : (x : Fault) → IsDisagrees x → IsRightFault x → (p : DisagreesParts) × (AreDisagreesParts p × (fault_line x ≡ disagrees_text p) × (x ≡ disagrees_fault p))
disagrees_of (troubled (differs a b c d) e) is right = (
  (tt, (a, (b, (c, (d, e))))),
  (
    (tt, lacks_byte 32 (codes "disagrees") refl, (right.0.0, path_blank a right.0.0, (tt, plain_blank (field_word b) (field_plain b), (right.0.1, text_blank c right.0.1, (right.0.2, text_blank d right.0.2, right.1))))),
    sym (disagrees_same a b c d e),
    refl,
  ),
)
disagrees_of (troubled (lacks_registry p) n) is right = absurd is
disagrees_of (troubled (lacks_baseline p) n) is right = absurd is
disagrees_of (troubled (unreadable path place word) n) is right = absurd is
disagrees_of (troubled (lacks_version p ask) n) is right = absurd is
disagrees_of (conflicts p v n w m) is right = absurd is
disagrees_of (lacks_feature who f v n) is right = absurd is
disagrees_of (isnt_supported who f v n) is right = absurd is
disagrees_of (has_cycle walk) is right = absurd is

pub disagrees_parts_are : AreParts disagrees_text AreDisagreesParts fault_line (IsRightAnd IsDisagrees) disagrees_fault
disagrees_parts_are = record {
  made = λ p right. (disagrees_same p.1.0 p.1.1.0 p.1.1.1.0 p.1.1.1.1.0 p.1.1.1.1.1, (tt, ((right.2.0, right.2.2.2.0, right.2.2.2.2.0), right.2.2.2.2.2)));
  parts = λ x fine. disagrees_of x fine.0 fine.1;
}

-- ---- conflict

abbrev pub conflict_text : ConflictParts → List ℕ
conflict_text = pair_text 32 (λ u. codes "conflict") (pair_text 32 token_of (pair_text 32 (λ v. version_text (ask_of v)) (pair_text 32 decimal (pair_text 32 (λ v. version_text (ask_of v)) decimal))))

abbrev pub AreConflictParts : ConflictParts → Type 0
AreConflictParts = IsRightPair 32 (λ u. codes "conflict") Any (IsRightPair 32 token_of (IsName port_rule) (IsRightPair 32 (λ v. version_text (ask_of v)) IsRightVersion (IsRightPair 32 decimal IsLine (IsRightPair 32 (λ v. version_text (ask_of v)) IsRightVersion IsLine))))

conflict_same : (a : List ℕ) (b : plain.Version) (c : ℕ) (d : plain.Version) (e : ℕ) → conflict_text (tt, (a, (b, (c, (d, e))))) ≡ fault_line (conflict_fault (tt, (a, (b, (c, (d, e))))))
conflict_same a b c d e = sym (ap (λ l. codes "conflict " ++ l) (conflict_spaced (token_of a) (version_text (ask_of b)) (decimal c) (version_text (ask_of d)) (decimal e)))

conflict_of : (x : Fault) → IsConflict x → IsRightFault x → (p : ConflictParts) × (AreConflictParts p × (fault_line x ≡ conflict_text p) × (x ≡ conflict_fault p))
conflict_of (conflicts a b c d e) is right = (
  (tt, (a, (b, (c, (d, e))))),
  (
    (tt, lacks_byte 32 (codes "conflict") refl, (right.0, name_lacks port_rule 32 a refl right.0, (right.1, version_blank (ask_of b) right.1.ask, (right.2, decimal_lacks 32 c right.2 (omega arith), (right.3, version_blank (ask_of d) right.3.ask, right.4))))),
    sym (conflict_same a b c d e),
    refl,
  ),
)
conflict_of (troubled (lacks_registry p) n) is right = absurd is
conflict_of (troubled (lacks_baseline p) n) is right = absurd is
conflict_of (troubled (unreadable path place word) n) is right = absurd is
conflict_of (troubled (lacks_version p ask) n) is right = absurd is
conflict_of (troubled (differs path field row manifest) n) is right = absurd is
conflict_of (lacks_feature who f v n) is right = absurd is
conflict_of (isnt_supported who f v n) is right = absurd is
conflict_of (has_cycle walk) is right = absurd is

pub conflict_parts_are : AreParts conflict_text AreConflictParts fault_line (IsRightAnd IsConflict) conflict_fault
conflict_parts_are = record {
  made = λ p right. (conflict_same p.1.0 p.1.1.0 p.1.1.1.0 p.1.1.1.1.0 p.1.1.1.1.1, (tt, (right.2.0, right.2.2.0, right.2.2.2.0, right.2.2.2.2.0, right.2.2.2.2.2)));
  parts = λ x fine. conflict_of x fine.0 fine.1;
}

-- ---- no-feature

abbrev pub no_feature_text : NoFeatureParts → List ℕ
no_feature_text = pair_text 32 (λ u. codes "no-feature") (pair_text 32 port_or_root (pair_text 32 token_of (pair_text 32 token_of (pair_text 32 version_or_none decimal))))

abbrev pub AreNoFeatureParts : NoFeatureParts → Type 0
AreNoFeatureParts = IsRightPair 32 (λ u. codes "no-feature") Any (IsRightPair 32 port_or_root IsPortIfAny (IsRightPair 32 token_of (IsName word_rule) (IsRightPair 32 token_of (IsName word_rule) (IsRightPair 32 version_or_none IsRightIfAny IsLine))))

no_feature_same : (a : Option (List ℕ)) (b : List ℕ) (c : List ℕ) (d : Option plain.Version) (e : ℕ) → no_feature_text (tt, (a, (b, (c, (d, e))))) ≡ fault_line (no_feature_fault (tt, (a, (b, (c, (d, e))))))
no_feature_same None b c d e = sym (ap (λ l. codes "no-feature " ++ l) (judged_spaced None (token_of b) (token_of c) (version_or_none d) (decimal e)))
no_feature_same (Some p) b c d e = sym (ap (λ l. codes "no-feature " ++ l) (judged_spaced (Some p) (token_of b) (token_of c) (version_or_none d) (decimal e)))

no_feature_of : (x : Fault) → IsNoFeature x → IsRightFault x → (p : NoFeatureParts) × (AreNoFeatureParts p × (fault_line x ≡ no_feature_text p) × (x ≡ no_feature_fault p))
no_feature_of (lacks_feature who c d e) is right = (
  (tt, ((port_in who), ((triplet_in who), (c, (d, e))))),
  (
    (tt, lacks_byte 32 (codes "no-feature") refl, ((port_right who right.0), port_blank (port_in who) (port_right who right.0), ((triplet_right who right.0), name_lacks word_rule 32 (triplet_in who) refl (triplet_right who right.0), (right.1, name_lacks word_rule 32 c refl right.1, (right.2, if_any_blank d right.2, right.3))))),
    ap (λ w. fault_line (lacks_feature w c d e)) (sym (who_again who)) ∙ sym (no_feature_same (port_in who) (triplet_in who) c d e),
    ap (λ w. lacks_feature w c d e) (sym (who_again who)),
  ),
)
no_feature_of (troubled (lacks_registry p) n) is right = absurd is
no_feature_of (troubled (lacks_baseline p) n) is right = absurd is
no_feature_of (troubled (unreadable path place word) n) is right = absurd is
no_feature_of (troubled (lacks_version p ask) n) is right = absurd is
no_feature_of (troubled (differs path field row manifest) n) is right = absurd is
no_feature_of (conflicts p v n w m) is right = absurd is
no_feature_of (isnt_supported who f v n) is right = absurd is
no_feature_of (has_cycle walk) is right = absurd is

pub no_feature_parts_are : AreParts no_feature_text AreNoFeatureParts fault_line (IsRightAnd IsNoFeature) no_feature_fault
no_feature_parts_are = record {
  made = λ p right. (no_feature_same p.1.0 p.1.1.0 p.1.1.1.0 p.1.1.1.1.0 p.1.1.1.1.1, (tt, (who_right p.1.0 p.1.1.0 right.2.0 right.2.2.0, right.2.2.2.0, right.2.2.2.2.0, right.2.2.2.2.2)));
  parts = λ x fine. no_feature_of x fine.0 fine.1;
}

-- ---- unsupported

abbrev pub unsupported_text : UnsupportedParts → List ℕ
unsupported_text = pair_text 32 (λ u. codes "unsupported") (pair_text 32 port_or_root (pair_text 32 token_of (pair_text 32 token_of (pair_text 32 version_or_none decimal))))

abbrev pub AreUnsupportedParts : UnsupportedParts → Type 0
AreUnsupportedParts = IsRightPair 32 (λ u. codes "unsupported") Any (IsRightPair 32 port_or_root IsPortIfAny (IsRightPair 32 token_of (IsName word_rule) (IsRightPair 32 token_of (IsName word_rule) (IsRightPair 32 version_or_none IsRightIfAny IsLine))))

unsupported_same : (a : Option (List ℕ)) (b : List ℕ) (c : List ℕ) (d : Option plain.Version) (e : ℕ) → unsupported_text (tt, (a, (b, (c, (d, e))))) ≡ fault_line (unsupported_fault (tt, (a, (b, (c, (d, e))))))
unsupported_same None b c d e = sym (ap (λ l. codes "unsupported " ++ l) (judged_spaced None (token_of b) (token_of c) (version_or_none d) (decimal e)))
unsupported_same (Some p) b c d e = sym (ap (λ l. codes "unsupported " ++ l) (judged_spaced (Some p) (token_of b) (token_of c) (version_or_none d) (decimal e)))

unsupported_of : (x : Fault) → IsUnsupported x → IsRightFault x → (p : UnsupportedParts) × (AreUnsupportedParts p × (fault_line x ≡ unsupported_text p) × (x ≡ unsupported_fault p))
unsupported_of (isnt_supported who c d e) is right = (
  (tt, ((port_in who), ((triplet_in who), (c, (d, e))))),
  (
    (tt, lacks_byte 32 (codes "unsupported") refl, ((port_right who right.0), port_blank (port_in who) (port_right who right.0), ((triplet_right who right.0), name_lacks word_rule 32 (triplet_in who) refl (triplet_right who right.0), (right.1, name_lacks word_rule 32 c refl right.1, (right.2, if_any_blank d right.2, right.3))))),
    ap (λ w. fault_line (isnt_supported w c d e)) (sym (who_again who)) ∙ sym (unsupported_same (port_in who) (triplet_in who) c d e),
    ap (λ w. isnt_supported w c d e) (sym (who_again who)),
  ),
)
unsupported_of (troubled (lacks_registry p) n) is right = absurd is
unsupported_of (troubled (lacks_baseline p) n) is right = absurd is
unsupported_of (troubled (unreadable path place word) n) is right = absurd is
unsupported_of (troubled (lacks_version p ask) n) is right = absurd is
unsupported_of (troubled (differs path field row manifest) n) is right = absurd is
unsupported_of (conflicts p v n w m) is right = absurd is
unsupported_of (lacks_feature who f v n) is right = absurd is
unsupported_of (has_cycle walk) is right = absurd is

pub unsupported_parts_are : AreParts unsupported_text AreUnsupportedParts fault_line (IsRightAnd IsUnsupported) unsupported_fault
unsupported_parts_are = record {
  made = λ p right. (unsupported_same p.1.0 p.1.1.0 p.1.1.1.0 p.1.1.1.1.0 p.1.1.1.1.1, (tt, (who_right p.1.0 p.1.1.0 right.2.0 right.2.2.0, right.2.2.2.0, right.2.2.2.2.0, right.2.2.2.2.2)));
  parts = λ x fine. unsupported_of x fine.0 fine.1;
}
