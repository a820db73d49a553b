use Rattle.std.proofs.Common.{◌≡◌, None, ap, refl, ◌∙◌, bytes_eq}
use Rattle.std.specs.Map.{lookup}
use Rattle.indexmap.specs.IndexMap.{get}
use Rattle.indexmap.proofs.CallerLemmas.{insert_entry-new}
use Rattle.vk_config.proofs.FirstLemmas.{lookup_more, is_nothing}
use Rattle.vk_config.proofs.first_places.FirstPlaces.put.Goals as goal

pub returns-in_ok-insert : goal.returns-in_ok-insert
returns-in_ok-insert c = λ other.
    let old = c.args.self.now.inner in
    let key = c.in_ok-from_slice.field-0 in
    let absent : get (λ x y. bytes_eq x.items y.items) old key ≡ None =
    rw c.in_ok-from_slice.ensures.items (is_nothing c.get.result _ _ c.is_none.ensures c.if-is_none.true c.get.ensures) in
    ap (lookup (λ k. bytes_eq other k.items))
    (c.in_ok-insert.ensures.entries ∙ insert_entry-new _ old key c.args.place absent)
    ∙ lookup_more (λ k. bytes_eq other k.items) old.entries key c.args.place
    ∙ rw c.in_ok-from_slice.ensures.items refl
