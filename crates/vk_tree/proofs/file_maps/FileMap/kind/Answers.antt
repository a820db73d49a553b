use Rattle.std.proofs.Common.{◌≡◌, true, false, sym, ap, ◌∙◌}
use Rattle.std.specs.Prelude.{is_some}
use Rattle.std.specs.FinMap as map
use Rattle.vk_tree.proofs.FileMapLemmas.{get_path, stored, nothing_at}
use Rattle.vk_tree.proofs.file_maps.FileMap.kind.Goals as goal

pub returns-then-contains_key : goal.returns-then-contains_key
returns-then-contains_key c = rw (← c.self.view_is) (ap is_some (get_path c.self.inside.inner.entries c.args.path.now) ∙ sym c.contains_key.ensures ∙ c.if-contains_key.true)

pub returns : goal.returns
returns c = rw (← c.self.view_is) (nothing_at (map.from_entries c.self.inside.inner.entries) c.args.path.now
    (λ some. let clash : true ≡ false = sym (stored c.self.inside.inner.entries c.args.path.now some) ∙ sym c.contains_key.ensures ∙ c.if-contains_key.false in (cc))
    (c.stands_below.ensures.free c.if-stands_below.false))
