-- Items are put together from the parts of their lines.
use Rattle.std.proofs.Common.{◌≡◌, ◌++◌, ◌∷◌, ℕ, List, [], refl, ap, sym, ◌∙◌, append_assoc, arith}
use Rattle.std.specs.Prelude.{decimal}
use Rattle.vk_spec.specs.Versions.{ask_of}
use Rattle.vk_base.specs.Names.{IsName, port_rule, word_rule}
use Rattle.vk_base.specs.Printed.{version_text}
use Rattle.vk_base.specs.Tokens.{token_of}
use Rattle.vk_resolution.specs.Planning.{Item}
use Rattle.vk_resolution.specs.Lines.{item_text}
use Rattle.vk_model.specs.Lines.{features_text}
use Rattle.vk_forms.specs.Lines.{IsLine}
use Rattle.vk_forms.specs.Features.{AreFeatures}
use Rattle.vk_forms.specs.Forms.{pair_text, IsRightPair}
use Rattle.vk_report_reader.specs.Items.{IsRightItem, ItemParts, item_of}
use Rattle.vk_forms.specs.Versions.{IsRightVersion}
use Rattle.vk_forms.proofs.NameForms.{name_lacks}
use Rattle.vk_forms.proofs.Numbers.{decimal_lacks}
use Rattle.vk_report_reader.proofs.Spaced.{spaced2, spaced3}
use Rattle.vk_forms.proofs.Through.{AreParts}
use Rattle.vk_forms.proofs.VersionForms.{version_blank}

abbrev pub parts_text : ItemParts → List ℕ
parts_text = pair_text 32 token_of (pair_text 32 token_of (pair_text 32 (λ v. version_text (ask_of v)) (pair_text 32 decimal features_text)))

abbrev pub AreItemParts : ItemParts → Type 0
AreItemParts = IsRightPair 32 token_of (IsName port_rule) (IsRightPair 32 token_of (IsName word_rule) (IsRightPair 32 (λ v. version_text (ask_of v)) IsRightVersion (IsRightPair 32 decimal IsLine AreFeatures)))

item_spaced : (p t v n f : List ℕ) → ((((((p ++ 32 ∷ []) ++ t) ++ 32 ∷ []) ++ v) ++ 32 ∷ n) ++ 32 ∷ []) ++ f ≡ p ++ 32 ∷ (t ++ 32 ∷ (v ++ 32 ∷ (n ++ 32 ∷ f)))
item_spaced p t v n f =
    spaced2 (((((p ++ 32 ∷ []) ++ t) ++ 32 ∷ []) ++ v) ++ 32 ∷ n) f
    ∙ append_assoc ((((p ++ 32 ∷ []) ++ t) ++ 32 ∷ []) ++ v) (32 ∷ n) (32 ∷ f)
    ∙ append_assoc (((p ++ 32 ∷ []) ++ t) ++ 32 ∷ []) v (32 ∷ (n ++ 32 ∷ f))
    ∙ spaced3 p t (v ++ 32 ∷ (n ++ 32 ∷ f))

-- an item without needs is what its parts make
item_again : (item : Item) → item.needs ≡ [] → item ≡ item_of (item.instance.port, (item.instance.triplet, (item.version, (item.line, item.features))))
item_again item none = ap (λ needs. record { instance = item.instance; version = item.version; line = item.line; features = item.features; needs = needs }) none

pub item_parts_are : AreParts parts_text AreItemParts item_text IsRightItem item_of
item_parts_are = record {
  made = λ p right. (
    sym (item_spaced (token_of p.0) (token_of p.1.0) (version_text (ask_of p.1.1.0)) (decimal p.1.1.1.0) (features_text p.1.1.1.1)),
    record { instance = (right.0, right.2.0); version = right.2.2.0; line = right.2.2.2.0; features = right.2.2.2.2; needs = refl },
  );
  parts = λ item fine. (
    (item.instance.port, (item.instance.triplet, (item.version, (item.line, item.features)))),
    (
      (fine.instance.0, name_lacks port_rule 32 item.instance.port refl fine.instance.0, (fine.instance.1, name_lacks word_rule 32 item.instance.triplet refl fine.instance.1, (fine.version, version_blank (ask_of item.version) fine.version.ask, (fine.line, decimal_lacks 32 item.line fine.line (omega arith), fine.features)))),
      item_spaced (token_of item.instance.port) (token_of item.instance.triplet) (version_text (ask_of item.version)) (decimal item.line) (features_text item.features),
      item_again item fine.needs,
    ),
  );
}
