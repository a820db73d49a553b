use Rattle.std.proofs.Common.{refl, subst}
use Rattle.std.specs.Prelude.{None, Some}
use Rattle.vk_choices.specs.Tops.{IsGreatest}
use Rattle.vk_choices.specs.Settling.{TellsTwo, by_conflict, told_in}
use Rattle.vk_choices.proofs.SettleLemmas.{on_ok, chosen_added}
use Rattle.vk_choices.proofs.TopLemmas.{tells_moved}
use Rattle.vk_choices.proofs.settling.Settled.settle_port.Goals as goal

pub returns-in-Some : goal.returns-in-Some
returns-in-Some c =
    on_ok c.put_choice.result
    (λ put. chosen_added c.args.port c.args.floors c.into_vec.result.items c.in-Some.place c.swap_remove.result c.args.self.now (record { choices = c.put_choice.new.choices; conflicts = c.args.self.now.conflicts })
    (subst (λ l. IsGreatest l (Some c.in-Some.place)) c.as_slice.ensures c.in-Some.ensures) c.into_vec.ensures c.swap_remove.ensures.value put refl)
    c.put_choice.ensures

pub returns-in-None : goal.returns-in-None
returns-in-None c =
    on_ok c.put_conflict.result
    (λ told. by_conflict (subst (λ l. IsGreatest l None) c.as_slice.ensures c.in-None.ensures)
    (tells_moved c.args.floors c.by_ask.result.items c.by_ask.ensures c.args.port (told_in c.args.self.now) (told_in (record { choices = c.args.self.now.choices; conflicts = c.put_conflict.new.conflicts }))
    (subst (λ l. TellsTwo c.args.port l (told_in c.args.self.now) (told_in (record { choices = c.args.self.now.choices; conflicts = c.put_conflict.new.conflicts }))) c.deref.ensures.value told)) refl)
    c.put_conflict.ensures
