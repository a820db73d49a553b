use Rattle.std.proofs.Common.{◌≡◌, true, false, refl, sym, ap, ◌∙◌}
use Rattle.std.specs.Prelude.{is_some}
use Rattle.std.specs.FinMap as map
use Rattle.vk_tree.proofs.FileMapLemmas.{get_path, stored, file_stands, folder_stands, nothing_at, nothing_stands}
use Rattle.vk_tree.proofs.file_maps.FileMap.stands.Goals as goal

pub returns-then-contains_key : goal.returns-then-contains_key
returns-then-contains_key c =
    rw (← c.self.view_is) ((λ is. file_stands (map.from_entries c.self.inside.inner.entries) c.args.path.now (ap is_some (get_path c.self.inside.inner.entries c.args.path.now) ∙ sym c.contains_key.ensures ∙ c.if-contains_key.true)), (λ stands. c.if-contains_key.true))

pub returns-else-contains_key : goal.returns-else-contains_key
returns-else-contains_key c =
    rw (← c.self.view_is) (
      (λ is. folder_stands (map.from_entries c.self.inside.inner.entries) c.args.path.now (c.stands_below.ensures.taken is)),
      (λ stands. elim (c.stands_below.result) as (λ t. c.stands_below.result ≡ t → t ≡ true) [
        | true ↦ λ e. refl
        | false ↦ λ e. absurd (nothing_stands (map.from_entries c.self.inside.inner.entries) c.args.path.now
            (nothing_at (map.from_entries c.self.inside.inner.entries) c.args.path.now
            (λ some. let clash : true ≡ false = sym (stored c.self.inside.inner.entries c.args.path.now some) ∙ sym c.contains_key.ensures ∙ c.if-contains_key.false in (cc))
            (c.stands_below.ensures.free e)) stands)
      ] refl),
    )
