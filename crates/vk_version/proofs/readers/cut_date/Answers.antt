use Rattle.std.proofs.Common.{◌≡◌, ◌∙◌, sym, true, false}
use Rattle.std.proofs.lemmas.Bool.{and_left, and_right}
use Rattle.vk_version.specs.Texts.{is_day}
use Rattle.vk_version.proofs.DateLemmas.{undated, date_there, no_such_day}
use Rattle.vk_version.proofs.readers.cut_date.Goals as goal
use Rattle.vk_version.proofs.readers.cut_date.Goals.{then-not-is_day-via-then-not-is_day}
use Rattle.vk_version.proofs.readers.cut_date.Goals.{then-not-is_day-via-else-not-is_day+then-not-are_numbers}

pub returns-then-not-is_day-clause-err : goal.returns-then-not-is_day-clause-err
returns-then-not-is_day-clause-err c =
    undated c.args.text.now _ _ c.cut.ensures.front c.cut.ensures.whole
    (elim c.then-not-is_day.branch [
      | then-not-is_day-via-then-not-is_day w ↦
          and_left _ _
          (rw c.as_bytes-day.ensures.value at (sym c.is_day.ensures ∙ w.if-not-is_day.true))
      | then-not-is_day-via-else-not-is_day+then-not-are_numbers w ↦
          and_right _ _ (sym w.are_numbers.ensures ∙ w.if-not-are_numbers.true)
    ])

pub day_numbers-requires : goal.day_numbers-requires
day_numbers-requires c = sym c.is_day.ensures ∙ c.if-not-is_day.false

pub returns-in-Some-clause-ok : goal.returns-in-Some-clause-ok
returns-in-Some-clause-ok c =
    let form : is_day c.cut.result.0.now ≡ true =
    rw c.as_bytes-day.ensures.value at (sym c.is_day.ensures ∙ c.if-not-is_day.false) in
    date_there c.args.text.now _ _ _ c.cut.ensures.front c.cut.ensures.whole form
    (sym c.are_numbers.ensures ∙ c.if-not-are_numbers.false)
    (rw c.as_bytes-day.ensures.value at c.in-Some.ensures)

pub returns-in-None-clause-err : goal.returns-in-None-clause-err
returns-in-None-clause-err c =
    let form : is_day c.cut.result.0.now ≡ true =
    rw c.as_bytes-day.ensures.value at (sym c.is_day.ensures ∙ c.if-not-is_day.false) in
    no_such_day c.args.text.now _ _ c.cut.ensures.front c.cut.ensures.whole form
    (sym c.are_numbers.ensures ∙ c.if-not-are_numbers.false)
    (rw c.as_bytes-day.ensures.value at c.in-None.ensures)
