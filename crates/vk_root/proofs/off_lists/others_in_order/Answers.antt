use Rattle.std.proofs.Common.{◌≡◌, not, filter, ap, sym, ◌∙◌, subst}
use Rattle.std.specs.List.{Contains}
use Rattle.vk_root.specs.Offs.{has_instance}
use Rattle.vk_root.proofs.off_lists.others_in_order.Goals as goal

pub returns-clause-each : goal.returns-clause-each
returns-clause-each c i =
    let kept : c.keep_others.new.instances.items ≡ filter (λ k. not (has_instance c.args.wanted.now.keys k)) c.args.named =
    c.keep_others.ensures ∙ ap (filter (λ k. not (has_instance c.args.wanted.now.keys k))) c.into_vec-instances.ensures in (
      (λ h. subst (λ l. Contains l i) kept (c.put_in_order.ensures.adds_none i (subst (λ l. Contains l i) c.from_vec.ensures h))),
      (λ h. subst (λ l. Contains l i) (sym c.from_vec.ensures) (c.put_in_order.ensures.keeps i (subst (λ l. Contains l i) (sym kept) h))),
    )
