-- No two right items, reasons, faults or early lines are printed alike.
use Rattle.std.proofs.Common.{◌≡◌, ◌⊎◌, ◌∷◌, ℕ, false, List, [], inl, inr, refl, sym, ◌∙◌, subst, codes}
use Rattle.std.specs.Prelude.{decimal}
use Rattle.std.specs.Str.{bytes_eq}
use Rattle.vk_spec.specs.Paths.{Path}
use Rattle.vk_spec.specs.Versions.{ask_of}
use Rattle.vk_base.specs.Names.{IsName, port_rule, word_rule}
use Rattle.vk_base.specs.Paths.{Lacks}
use Rattle.vk_base.specs.Printed.{field_word, path_text, version_text}
use Rattle.vk_base.specs.Tokens.{token_of}
use Rattle.vk_base.proofs.PathLemmas.{lacks_byte}
use Rattle.vk_json.specs.Places.{place_text}
use Rattle.vk_model.specs.Lines.{early_line, features_text}
use Rattle.vk_resolution.specs.Asking.{Fact, need, floor, visit}
use Rattle.vk_resolution.specs.Consequences.{Cause}
use Rattle.vk_resolution.specs.Faults.{Fault, conflicts, differs, has_cycle, isnt_supported, lacks_baseline, lacks_feature, lacks_registry, lacks_version, troubled, unreadable}
use Rattle.vk_resolution.specs.Lines.{cause_text, fault_line, item_text, reason_text, version_or_none}
use Rattle.vk_resolution.specs.Reasons.{Reason}
use Rattle.vk_forms.specs.Lines.{IsLine}
use Rattle.vk_report_reader.specs.Causes.{Cited, IsFloorCause, IsNeedCause, IsVisitCause}
use Rattle.vk_forms.specs.Choices.{either_text, IsRightEither}
use Rattle.vk_report_reader.specs.Cycles.{CycleParts, IsWalk, walk_text}
use Rattle.vk_report_reader.specs.Earlies.{EarlyParts, FileParts, FolderParts, IsRightEarly}
use Rattle.vk_forms.specs.Words.{IsWord}
use Rattle.vk_report_reader.specs.Faults.{IsBadFile, IsConflict, IsCycle, IsDisagrees, IsNoBaseline, IsNoFeature, IsNoRegistry, IsNoVersion, IsRightAnd, IsRightFault, IsUnsupported}
use Rattle.vk_forms.specs.Features.{AreFeatures}
use Rattle.vk_forms.specs.Forms.{TellsApart, pair_text, IsRightPair}
use Rattle.vk_report_reader.specs.Items.{IsRightItem}
use Rattle.vk_forms.specs.Names.{IsPortIfAny, port_or_root}
use Rattle.vk_forms.specs.Paths.{IsPlace, IsRightPath}
use Rattle.vk_forms.specs.Words.{Any}
use Rattle.vk_report_reader.specs.Reasons.{IsFloorReason, IsNeedReason, IsRightReason, IsVisitReason}
use Rattle.vk_forms.specs.Texts.{IsText}
use Rattle.vk_forms.specs.Versions.{IsRightAsk, IsRightIfAny, IsRightVersion}
use Rattle.vk_forms.proofs.Apart.{AreOthers, ask_apart, either_apart, features_apart, field_apart, if_any_apart, name_apart, number_apart, pair_apart, path_apart, place_apart, port_apart, text_apart, version_apart, word_apart}
use Rattle.vk_report_reader.proofs.CauseForms.{IsCited, cited_text}
use Rattle.vk_report_reader.proofs.CauseForms as causes
use Rattle.vk_report_reader.proofs.CycleForms.{AreCycleParts, cycle_parts_are, cycle_text, walk_apart}
use Rattle.vk_report_reader.proofs.EarlyForms.{AreEarlyParts, IsBlockedLine, IsFileLine, IsFolderLine, IsOverlapLine, IsTripletLine, blocked_text, early_text, early_words_are, file_text, folder_text, overlap_text, triplet_text}
use Rattle.vk_report_reader.proofs.FaultForms as faults
use Rattle.vk_forms.proofs.Heads.{AreKinds, IsHeaded, OneOf, heads_clash, is_among, line_headed, one_kind, one_more, one_or, parts_headed, same_bytes, word_headed, word_kind}
use Rattle.vk_report_reader.proofs.ItemForms.{item_parts_are}
use Rattle.vk_forms.proofs.PairForms.{lacks_none, same_pair}
use Rattle.vk_report_reader.proofs.ReasonForms as reasons
use Rattle.vk_forms.proofs.Through.{AreParts, parts_apart}
use Rattle.vk_forms.proofs.PathForms.{path_blank, place_blank}
use Rattle.vk_forms.proofs.WordForms.{plain_blank, word_plain}

-- ---- causes

cited_apart : (word : List ℕ) → TellsApart (cited_text word) (IsCited word)
cited_apart word = pair_apart 32 (λ u. word) decimal Any IsLine (word_apart word) number_apart

-- two words are two lines
words_differ : {A B : Type 0} (w v : List ℕ) (one : A → List ℕ) (other : B → List ℕ) (is_right_one : A → Type 0) (is_right_other : B → Type 0) → bytes_eq w v ≡ false
    → AreOthers (pair_text 32 (λ u. w) one) (IsRightPair 32 (λ u. w) Any is_right_one) (pair_text 32 (λ u. v) other) (IsRightPair 32 (λ u. v) Any is_right_other)
words_differ w v one other is_right_one is_right_other differ p q left right e =
    let same = same_bytes w v (same_pair 32 w v (one p.1) (other q.1) left.1 right.1 e).0 in
    (cc)

both_other : {P A B : Type 0} (one : P → List ℕ) (is_right_one : P → Type 0) (a : A → List ℕ) (is_right_a : A → Type 0) (b : B → List ℕ) (is_right_b : B → Type 0)
    → AreOthers one is_right_one a is_right_a → AreOthers one is_right_one b is_right_b → AreOthers one is_right_one (either_text a b) (IsRightEither is_right_a is_right_b)
both_other one is_right_one a is_right_a b is_right_b first second p (inl x) left right e = first p x left right e
both_other one is_right_one a is_right_a b is_right_b first second p (inr y) left right e = second p y left right e

need_cause_apart : TellsApart cause_text IsNeedCause
need_cause_apart = parts_apart causes.need_parts
    (either_apart (λ u. codes "root") (cited_text (codes "from")) Any (IsCited (codes "from")) (word_apart (codes "root")) (cited_apart (codes "from"))
    (λ u q left right e. lacks_none 32 (codes "from") (decimal q.1) (subst (Lacks 32) e (lacks_byte 32 (codes "root") refl))))

cited_other : (w v : List ℕ) → bytes_eq w v ≡ false → AreOthers (cited_text w) (IsCited w) (cited_text v) (IsCited v)
cited_other w v differ = words_differ w v decimal decimal IsLine IsLine differ

last_apart : TellsApart (either_text (cited_text (codes "overlay")) (cited_text (codes "minimum"))) (IsRightEither (IsCited (codes "overlay")) (IsCited (codes "minimum")))
last_apart = either_apart (cited_text (codes "overlay")) (cited_text (codes "minimum")) (IsCited (codes "overlay")) (IsCited (codes "minimum")) (cited_apart (codes "overlay")) (cited_apart (codes "minimum"))
    (cited_other (codes "overlay") (codes "minimum") refl)

abbrev last_text : Cited ⊎ Cited → List ℕ
last_text = either_text (cited_text (codes "overlay")) (cited_text (codes "minimum"))

abbrev IsLast : Cited ⊎ Cited → Type 0
IsLast = IsRightEither (IsCited (codes "overlay")) (IsCited (codes "minimum"))

later_apart : TellsApart (either_text (cited_text (codes "override")) last_text) (IsRightEither (IsCited (codes "override")) IsLast)
later_apart = either_apart (cited_text (codes "override")) last_text (IsCited (codes "override")) IsLast (cited_apart (codes "override")) last_apart
    (both_other (cited_text (codes "override")) (IsCited (codes "override")) (cited_text (codes "overlay")) (IsCited (codes "overlay")) (cited_text (codes "minimum")) (IsCited (codes "minimum"))
    (cited_other (codes "override") (codes "overlay") refl) (cited_other (codes "override") (codes "minimum") refl))

floor_cause_apart : TellsApart cause_text IsFloorCause
floor_cause_apart = parts_apart causes.floor_parts
    (either_apart (cited_text (codes "baseline")) (either_text (cited_text (codes "override")) last_text) (IsCited (codes "baseline")) (IsRightEither (IsCited (codes "override")) IsLast) (cited_apart (codes "baseline")) later_apart
    (both_other (cited_text (codes "baseline")) (IsCited (codes "baseline")) (cited_text (codes "override")) (IsCited (codes "override")) last_text IsLast
    (cited_other (codes "baseline") (codes "override") refl)
    (both_other (cited_text (codes "baseline")) (IsCited (codes "baseline")) (cited_text (codes "overlay")) (IsCited (codes "overlay")) (cited_text (codes "minimum")) (IsCited (codes "minimum"))
    (cited_other (codes "baseline") (codes "overlay") refl) (cited_other (codes "baseline") (codes "minimum") refl))))

visit_cause_apart : TellsApart cause_text IsVisitCause
visit_cause_apart = parts_apart causes.visit_parts (pair_apart 32 (λ u. codes "from") _ Any _ (word_apart (codes "from")) (pair_apart 32 decimal decimal IsLine IsLine number_apart number_apart))

-- ---- reasons

need_kind : AreKinds (codes "need" ∷ []) reason_text IsNeedReason
need_kind = record {
  heads = parts_headed (codes "need") reasons.need_parts_are (λ p right. record { lacks = right.1; is = inl (_, refl) });
  apart = parts_apart reasons.need_parts_are
      (pair_apart 32 (λ u. codes "need") _ Any _ (word_apart (codes "need"))
      (pair_apart 32 port_or_root _ IsPortIfAny _ port_apart
      (pair_apart 32 token_of _ (IsName word_rule) _ (name_apart word_rule)
      (pair_apart 32 token_of cause_text (IsName word_rule) IsNeedCause (name_apart word_rule) need_cause_apart))));
}

floor_kind : AreKinds (codes "floor" ∷ []) reason_text IsFloorReason
floor_kind = record {
  heads = parts_headed (codes "floor") reasons.floor_parts_are (λ p right. record { lacks = right.1; is = inl (_, refl) });
  apart = parts_apart reasons.floor_parts_are
      (pair_apart 32 (λ u. codes "floor") _ Any _ (word_apart (codes "floor"))
      (pair_apart 32 token_of _ (IsName port_rule) _ (name_apart port_rule)
      (pair_apart 32 version_text cause_text IsRightAsk IsFloorCause ask_apart floor_cause_apart)));
}

visit_kind : AreKinds (codes "visit" ∷ []) reason_text IsVisitReason
visit_kind = record {
  heads = parts_headed (codes "visit") reasons.visit_parts_are (λ p right. record { lacks = right.1; is = inl (_, refl) });
  apart = parts_apart reasons.visit_parts_are
      (pair_apart 32 (λ u. codes "visit") _ Any _ (word_apart (codes "visit"))
      (pair_apart 32 token_of _ (IsName port_rule) _ (name_apart port_rule)
      (pair_apart 32 token_of _ (IsName word_rule) _ (name_apart word_rule)
      (pair_apart 32 token_of _ (IsName word_rule) _ (name_apart word_rule)
      (pair_apart 32 version_text cause_text IsRightAsk IsVisitCause ask_apart visit_cause_apart)))));
}

abbrev SomeReason : Reason → Type 0
SomeReason = OneOf IsNeedReason (OneOf IsFloorReason IsVisitReason)

reason_kind : (x : Fact) (c : Cause ℕ) → IsRightReason (record { fact = x; cause = c }) → SomeReason (record { fact = x; cause = c })
reason_kind (need who f) c right = inl (tt, right)
reason_kind (floor p ask) c right = inr (inl (tt, right))
reason_kind (visit i f ask) c right = inr (inr (tt, right))

reason_kinds : AreKinds (codes "need" ∷ codes "floor" ∷ codes "visit" ∷ []) reason_text SomeReason
reason_kinds = one_more (codes "need") _ reason_text IsNeedReason (OneOf IsFloorReason IsVisitReason) refl need_kind (one_more (codes "floor") _ reason_text IsFloorReason IsVisitReason refl floor_kind visit_kind)

pub reason_apart : TellsApart reason_text IsRightReason
reason_apart x y left right e = reason_kinds.apart x y (reason_kind x.fact x.cause left) (reason_kind y.fact y.cause right) e

-- ---- items

pub item_apart : TellsApart item_text IsRightItem
item_apart = parts_apart item_parts_are
    (pair_apart 32 token_of _ (IsName port_rule) _ (name_apart port_rule)
    (pair_apart 32 token_of _ (IsName word_rule) _ (name_apart word_rule)
    (pair_apart 32 (λ v. version_text (ask_of v)) _ IsRightVersion _ version_apart
    (pair_apart 32 decimal features_text IsLine AreFeatures number_apart features_apart))))

-- ---- faults

-- the word of a bad file, as it is printed
abbrev pub bad_words_text : Unit {0} × (Path × (List ℕ × (List ℕ × ℕ))) → List ℕ
bad_words_text = pair_text 32 (λ u. codes "bad-file") (pair_text 32 path_text (pair_text 32 place_text (pair_text 32 (λ w. w) decimal)))

abbrev pub AreBadWords : Unit {0} × (Path × (List ℕ × (List ℕ × ℕ))) → Type 0
AreBadWords = IsRightPair 32 (λ u. codes "bad-file") Any (IsRightPair 32 path_text IsRightPath (IsRightPair 32 place_text IsPlace (IsRightPair 32 (λ w. w) IsWord IsLine)))

abbrev bad_words_fault : Unit {0} × (Path × (List ℕ × (List ℕ × ℕ))) → Fault
bad_words_fault p = troubled (unreadable p.1.0 p.1.1.0 p.1.1.1.0) p.1.1.1.1

bad_words_of : (x : Fault) → IsBadFile x → IsRightFault x → (p : Unit {0} × (Path × (List ℕ × (List ℕ × ℕ)))) × (AreBadWords p × (fault_line x ≡ bad_words_text p) × (x ≡ bad_words_fault p))
bad_words_of (troubled (unreadable a b word) d) is right = (
  (tt, (a, (b, (word, d)))),
  (
    (tt, lacks_byte 32 (codes "bad-file") refl, (right.0.0, path_blank a right.0.0, (right.0.1, place_blank b right.0.1, (right.0.2, plain_blank word (word_plain word right.0.2), right.1)))),
    sym (faults.bad_file_spaced a b word d),
    refl,
  ),
)
bad_words_of (troubled (lacks_registry p) n) is right = absurd is
bad_words_of (troubled (lacks_baseline p) n) is right = absurd is
bad_words_of (troubled (lacks_version p ask) n) is right = absurd is
bad_words_of (troubled (differs path field row manifest) n) is right = absurd is
bad_words_of (conflicts p v n w m) is right = absurd is
bad_words_of (lacks_feature who f v n) is right = absurd is
bad_words_of (isnt_supported who f v n) is right = absurd is
bad_words_of (has_cycle walk) is right = absurd is

pub bad_words_are : AreParts bad_words_text AreBadWords fault_line (IsRightAnd IsBadFile) bad_words_fault
bad_words_are = record {
  made = λ p right. (faults.bad_file_spaced p.1.0 p.1.1.0 p.1.1.1.0 p.1.1.1.1, (tt, ((right.2.0, right.2.2.0, right.2.2.2.0), right.2.2.2.2)));
  parts = λ x fine. bad_words_of x fine.0 fine.1;
}

no_registry_kind : AreKinds (codes "no-registry" ∷ []) fault_line (IsRightAnd IsNoRegistry)
no_registry_kind = record {
  heads = parts_headed (codes "no-registry") faults.no_registry_parts_are (λ p right. record { lacks = right.1; is = inl (_, refl) });
  apart = parts_apart faults.no_registry_parts_are (pair_apart 32 (λ u. codes "no-registry") _ Any _ (word_apart (codes "no-registry")) (pair_apart 32 token_of decimal (IsName port_rule) IsLine (name_apart port_rule) number_apart));
}

no_baseline_kind : AreKinds (codes "no-baseline" ∷ []) fault_line (IsRightAnd IsNoBaseline)
no_baseline_kind = record {
  heads = parts_headed (codes "no-baseline") faults.no_baseline_parts_are (λ p right. record { lacks = right.1; is = inl (_, refl) });
  apart = parts_apart faults.no_baseline_parts_are (pair_apart 32 (λ u. codes "no-baseline") _ Any _ (word_apart (codes "no-baseline")) (pair_apart 32 token_of decimal (IsName port_rule) IsLine (name_apart port_rule) number_apart));
}

same_word : TellsApart (λ w. w) IsWord
same_word v w left right e = e

bad_file_kind : AreKinds (codes "bad-file" ∷ []) fault_line (IsRightAnd IsBadFile)
bad_file_kind = record {
  heads = parts_headed (codes "bad-file") bad_words_are (λ p right. record { lacks = right.1; is = inl (_, refl) });
  apart = parts_apart bad_words_are
      (pair_apart 32 (λ u. codes "bad-file") _ Any _ (word_apart (codes "bad-file"))
      (pair_apart 32 path_text _ IsRightPath _ path_apart
      (pair_apart 32 place_text _ IsPlace _ place_apart
      (pair_apart 32 (λ w. w) decimal IsWord IsLine same_word number_apart))));
}

no_version_kind : AreKinds (codes "no-version" ∷ []) fault_line (IsRightAnd IsNoVersion)
no_version_kind = record {
  heads = parts_headed (codes "no-version") faults.no_version_parts_are (λ p right. record { lacks = right.1; is = inl (_, refl) });
  apart = parts_apart faults.no_version_parts_are
      (pair_apart 32 (λ u. codes "no-version") _ Any _ (word_apart (codes "no-version"))
      (pair_apart 32 token_of _ (IsName port_rule) _ (name_apart port_rule)
      (pair_apart 32 version_text decimal IsRightAsk IsLine ask_apart number_apart)));
}

disagrees_kind : AreKinds (codes "disagrees" ∷ []) fault_line (IsRightAnd IsDisagrees)
disagrees_kind = record {
  heads = parts_headed (codes "disagrees") faults.disagrees_parts_are (λ p right. record { lacks = right.1; is = inl (_, refl) });
  apart = parts_apart faults.disagrees_parts_are
      (pair_apart 32 (λ u. codes "disagrees") _ Any _ (word_apart (codes "disagrees"))
      (pair_apart 32 path_text _ IsRightPath _ path_apart
      (pair_apart 32 field_word _ (λ field. Unit {0}) _ field_apart
      (pair_apart 32 token_of _ IsText _ text_apart
      (pair_apart 32 token_of decimal IsText IsLine text_apart number_apart)))));
}

conflict_kind : AreKinds (codes "conflict" ∷ []) fault_line (IsRightAnd IsConflict)
conflict_kind = record {
  heads = parts_headed (codes "conflict") faults.conflict_parts_are (λ p right. record { lacks = right.1; is = inl (_, refl) });
  apart = parts_apart faults.conflict_parts_are
      (pair_apart 32 (λ u. codes "conflict") _ Any _ (word_apart (codes "conflict"))
      (pair_apart 32 token_of _ (IsName port_rule) _ (name_apart port_rule)
      (pair_apart 32 (λ v. version_text (ask_of v)) _ IsRightVersion _ version_apart
      (pair_apart 32 decimal _ IsLine _ number_apart
      (pair_apart 32 (λ v. version_text (ask_of v)) decimal IsRightVersion IsLine version_apart number_apart)))));
}

no_feature_kind : AreKinds (codes "no-feature" ∷ []) fault_line (IsRightAnd IsNoFeature)
no_feature_kind = record {
  heads = parts_headed (codes "no-feature") faults.no_feature_parts_are (λ p right. record { lacks = right.1; is = inl (_, refl) });
  apart = parts_apart faults.no_feature_parts_are
      (pair_apart 32 (λ u. codes "no-feature") _ Any _ (word_apart (codes "no-feature"))
      (pair_apart 32 port_or_root _ IsPortIfAny _ port_apart
      (pair_apart 32 token_of _ (IsName word_rule) _ (name_apart word_rule)
      (pair_apart 32 token_of _ (IsName word_rule) _ (name_apart word_rule)
      (pair_apart 32 version_or_none decimal IsRightIfAny IsLine if_any_apart number_apart)))));
}

unsupported_kind : AreKinds (codes "unsupported" ∷ []) fault_line (IsRightAnd IsUnsupported)
unsupported_kind = record {
  heads = parts_headed (codes "unsupported") faults.unsupported_parts_are (λ p right. record { lacks = right.1; is = inl (_, refl) });
  apart = parts_apart faults.unsupported_parts_are
      (pair_apart 32 (λ u. codes "unsupported") _ Any _ (word_apart (codes "unsupported"))
      (pair_apart 32 port_or_root _ IsPortIfAny _ port_apart
      (pair_apart 32 token_of _ (IsName word_rule) _ (name_apart word_rule)
      (pair_apart 32 token_of _ (IsName word_rule) _ (name_apart word_rule)
      (pair_apart 32 version_or_none decimal IsRightIfAny IsLine if_any_apart number_apart)))));
}

cycle_apart : TellsApart fault_line (IsRightAnd IsCycle)
cycle_apart = parts_apart cycle_parts_are
    (either_apart (λ u. codes "cycle") (pair_text 32 (λ u. codes "cycle") walk_text) Any (IsRightPair 32 (λ u. codes "cycle") Any IsWalk)
    (word_apart (codes "cycle"))
    (pair_apart 32 (λ u. codes "cycle") walk_text Any IsWalk (word_apart (codes "cycle")) walk_apart)
    (λ u q left right e. lacks_none 32 (codes "cycle") (walk_text q.1) (subst (Lacks 32) e (lacks_byte 32 (codes "cycle") refl))))

cycle_headed : (p : CycleParts) → AreCycleParts p → IsHeaded (codes "cycle") (cycle_text p)
cycle_headed (inl u) right = record { lacks = lacks_byte 32 (codes "cycle") refl; is = inr refl }
cycle_headed (inr p) right = record { lacks = right.1; is = inl (walk_text p.1, refl) }

cycle_kind : AreKinds (codes "cycle" ∷ []) fault_line (IsRightAnd IsCycle)
cycle_kind = record {
  heads = parts_headed (codes "cycle") cycle_parts_are cycle_headed;
  apart = cycle_apart;
}

-- ---- a fault is of one of these kinds

abbrev Judged : Fault → Type 0
Judged = OneOf (IsRightAnd IsNoFeature) (OneOf (IsRightAnd IsUnsupported) (IsRightAnd IsCycle))

abbrev OfVersions : Fault → Type 0
OfVersions = OneOf (IsRightAnd IsNoVersion) (OneOf (IsRightAnd IsDisagrees) (OneOf (IsRightAnd IsConflict) Judged))

abbrev SomeFault : Fault → Type 0
SomeFault = OneOf (IsRightAnd IsNoRegistry) (OneOf (IsRightAnd IsNoBaseline) (OneOf (IsRightAnd IsBadFile) OfVersions))

fault_kind : (x : Fault) → IsRightFault x → SomeFault x
fault_kind (troubled (lacks_registry p) n) right = inl (tt, right)
fault_kind (troubled (lacks_baseline p) n) right = inr (inl (tt, right))
fault_kind (troubled (unreadable path place word) n) right = inr (inr (inl (tt, right)))
fault_kind (troubled (lacks_version p ask) n) right = inr (inr (inr (inl (tt, right))))
fault_kind (troubled (differs path field row manifest) n) right = inr (inr (inr (inr (inl (tt, right)))))
fault_kind (conflicts p v n w m) right = inr (inr (inr (inr (inr (inl (tt, right))))))
fault_kind (lacks_feature who f v n) right = inr (inr (inr (inr (inr (inr (inl (tt, right)))))))
fault_kind (isnt_supported who f v n) right = inr (inr (inr (inr (inr (inr (inr (inl (tt, right))))))))
fault_kind (has_cycle walk) right = inr (inr (inr (inr (inr (inr (inr (inr (tt, right))))))))

judged_kinds : AreKinds (codes "no-feature" ∷ codes "unsupported" ∷ codes "cycle" ∷ []) fault_line Judged
judged_kinds =
    one_more (codes "no-feature") _ fault_line (IsRightAnd IsNoFeature) _ refl no_feature_kind
    (one_more (codes "unsupported") _ fault_line (IsRightAnd IsUnsupported) _ refl unsupported_kind cycle_kind)

abbrev later_words : List (List ℕ)
later_words = codes "no-version" ∷ codes "disagrees" ∷ codes "conflict" ∷ codes "no-feature" ∷ codes "unsupported" ∷ codes "cycle" ∷ []

version_kinds : AreKinds later_words fault_line OfVersions
version_kinds =
    one_more (codes "no-version") _ fault_line (IsRightAnd IsNoVersion) _ refl no_version_kind
    (one_more (codes "disagrees") _ fault_line (IsRightAnd IsDisagrees) _ refl disagrees_kind
    (one_more (codes "conflict") _ fault_line (IsRightAnd IsConflict) Judged refl conflict_kind judged_kinds))

abbrev fault_words : List (List ℕ)
fault_words = codes "no-registry" ∷ codes "no-baseline" ∷ codes "bad-file" ∷ later_words

fault_kinds : AreKinds fault_words fault_line SomeFault
fault_kinds =
    one_more (codes "no-registry") _ fault_line (IsRightAnd IsNoRegistry) _ refl no_registry_kind
    (one_more (codes "no-baseline") _ fault_line (IsRightAnd IsNoBaseline) _ refl no_baseline_kind
    (one_more (codes "bad-file") _ fault_line (IsRightAnd IsBadFile) OfVersions refl bad_file_kind version_kinds))

pub fault_apart : TellsApart fault_line IsRightFault
fault_apart x y left right e = fault_kinds.apart x y (fault_kind x left) (fault_kind y right) e

-- ---- early lines

file_kind : AreKinds (codes "bad-file" ∷ []) (file_text (λ w. w)) (IsFileLine IsWord)
file_kind = one_kind (codes "bad-file") _ _
    (pair_apart 32 path_text _ IsRightPath _ path_apart
    (pair_apart 32 place_text (λ w. w) IsPlace IsWord place_apart same_word))

abbrev folder_words : List (List ℕ)
folder_words = codes "overlap" ∷ codes "blocked" ∷ []

folder_kinds : AreKinds folder_words folder_text IsFolderLine
folder_kinds = one_or (codes "overlap") _ overlap_text blocked_text IsOverlapLine IsBlockedLine refl
    (one_kind (codes "overlap") _ _ (pair_apart 32 path_text path_text IsRightPath IsRightPath path_apart path_apart))
    (one_kind (codes "blocked") path_text IsRightPath path_apart)

abbrev named_words : List (List ℕ)
named_words = codes "no-triplet" ∷ codes "bad-file" ∷ folder_words

named_kinds : AreKinds named_words (either_text triplet_text (either_text (file_text (λ w. w)) folder_text)) (IsRightEither IsTripletLine (IsRightEither (IsFileLine IsWord) IsFolderLine))
named_kinds = one_or (codes "no-triplet") _ triplet_text _ IsTripletLine _ refl
    (one_kind (codes "no-triplet") token_of (IsName word_rule) (name_apart word_rule))
    (one_or (codes "bad-file") _ (file_text (λ w. w)) folder_text (IsFileLine IsWord) IsFolderLine refl file_kind folder_kinds)

early_kinds : AreKinds (codes "two-configurations" ∷ named_words) (early_text (λ w. w)) (AreEarlyParts IsWord)
early_kinds = one_or (codes "two-configurations") _ (λ u. codes "two-configurations") _ Any _ refl
    (word_kind (codes "two-configurations") (lacks_byte 32 (codes "two-configurations") refl))
    named_kinds

pub early_apart : TellsApart early_line IsRightEarly
early_apart = parts_apart early_words_are early_kinds.apart

-- ---- an early line is no fault's

bad_other : (p : FileParts (List ℕ)) (q : Unit {0} × (Path × (List ℕ × (List ℕ × ℕ)))) → IsFileLine IsWord p → AreBadWords q → file_text (λ w. w) p ≡ bad_words_text q → ⊥
bad_other p q left right e =
    let after_word = (same_pair 32 (codes "bad-file") (codes "bad-file") _ _ left.1 right.1 e).1 in
    let after_path = (same_pair 32 (path_text p.1.0) (path_text q.1.0) _ _ left.2.1 right.2.1 after_word).1 in
    let after_place = (same_pair 32 (place_text p.1.1.0) (place_text q.1.1.0) _ _ left.2.2.1 right.2.2.1 after_path).1 in
    lacks_none 32 q.1.1.1.0 (decimal q.1.1.1.1) (subst (Lacks 32) after_place ((plain_blank p.1.1.1 (word_plain p.1.1.1 left.2.2.2))))

-- a line headed so is no fault's
no_fault : (word text : List ℕ) → is_among word fault_words ≡ false → IsHeaded word text → (x : Fault) → IsRightFault x → fault_line x ≡ text → ⊥
no_fault word text new headed x right e =
    let head = fault_kinds.heads x (fault_kind x right) in
    heads_clash word fault_words text new headed head.0 head.1.0 (subst (IsHeaded head.0) e head.1.1)

headed_bad : (p : FileParts (List ℕ)) → IsFileLine IsWord p → IsHeaded (codes "bad-file") (file_text (λ w. w) p)
headed_bad p right = line_headed (codes "bad-file") _ right.1

bad_no_fault : (p : FileParts (List ℕ)) → IsFileLine IsWord p → (x : Fault) → SomeFault x → fault_line x ≡ file_text (λ w. w) p → ⊥
bad_no_fault p right x (inl is) e =
    let head = no_registry_kind.heads x is in
    heads_clash (codes "bad-file") (codes "no-registry" ∷ []) (file_text (λ w. w) p) refl (headed_bad p right) head.0 head.1.0 (subst (IsHeaded head.0) e head.1.1)
bad_no_fault p right x (inr (inl is)) e =
    let head = no_baseline_kind.heads x is in
    heads_clash (codes "bad-file") (codes "no-baseline" ∷ []) (file_text (λ w. w) p) refl (headed_bad p right) head.0 head.1.0 (subst (IsHeaded head.0) e head.1.1)
bad_no_fault p right x (inr (inr (inl is))) e =
    let words = bad_words_are.parts x is in
    bad_other p words.0 right words.1.0 (sym e ∙ words.1.1)
bad_no_fault p right x (inr (inr (inr is))) e =
    let head = version_kinds.heads x is in
    heads_clash (codes "bad-file") later_words (file_text (λ w. w) p) refl (headed_bad p right) head.0 head.1.0 (subst (IsHeaded head.0) e head.1.1)

folder_no_fault : (p : FolderParts) → IsFolderLine p → (x : Fault) → IsRightFault x → fault_line x ≡ folder_text p → ⊥
folder_no_fault (inl p) right = no_fault (codes "overlap") (overlap_text p) refl (line_headed (codes "overlap") _ right.1)
folder_no_fault (inr p) right = no_fault (codes "blocked") (blocked_text p) refl (line_headed (codes "blocked") _ right.1)

no_words : (p : EarlyParts (List ℕ)) → AreEarlyParts IsWord p → (x : Fault) → IsRightFault x → fault_line x ≡ early_text (λ w. w) p → ⊥
no_words (inl u) right = no_fault (codes "two-configurations") (codes "two-configurations") refl (word_headed (codes "two-configurations") (lacks_byte 32 (codes "two-configurations") refl))
no_words (inr (inl p)) right = no_fault (codes "no-triplet") (triplet_text p) refl (line_headed (codes "no-triplet") _ right.1)
no_words (inr (inr (inl p))) right = λ x fine. bad_no_fault p right x (fault_kind x fine)
no_words (inr (inr (inr p))) right = folder_no_fault p right

pub fault_or_early : AreOthers fault_line IsRightFault early_line IsRightEarly
fault_or_early x early fine right e =
    let words = early_words_are.parts early right in
    no_words words.0 words.1.0 x fine (e ∙ words.1.1)
