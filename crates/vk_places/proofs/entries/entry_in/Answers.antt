use Rattle.std.proofs.Common.{◌≡◌, ◌∙◌, ◌++◌, ◌∷◌, [], ap, subst}
use Rattle.std.specs.Prelude.{codes, IfOk}
use Rattle.hex.specs.Hex.{encode_lower}
use Rattle.vk_base.specs.Paths.{is_part}
use Rattle.vk_places.proofs.PlaceLemmas.{digest_part, in_folder}
use Rattle.vk_places.proofs.entries.entry_in.Goals as goal

pub child-requires-2 : goal.child-requires-2
child-requires-2 c = ap is_part (c.as_str.ensures.value ∙ c.in_ok-name.ensures) ∙ digest_part c.args.digest.now.bytes c.known.ensures.bytes c.known.ensures.long

pub returns : goal.returns
returns c = in_folder c.args.cache.now c.in_ok-entries.entries (codes "abi2") (encode_lower c.args.digest.now.bytes) c.child-2.result c.in_ok-entries.ensures
    (subst (λ t. IfOk c.child-2.result (λ p. p ≡ c.in_ok-entries.entries ++ t ∷ [])) (c.as_str.ensures.value ∙ c.in_ok-name.ensures) c.child-2.ensures)
