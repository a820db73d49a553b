use Rattle.std.proofs.Common.{◌≡◌, ◌∙◌, ap, sym, length, take, drop, ◌-◌, arith}
use Rattle.vk_version.proofs.DayLemmas.{ten, year_field, month_field, day_field, day_there, no_day}
use Rattle.vk_version.proofs.days.day_numbers.Goals as goal

pub small_number-year-requires-clause-some : goal.small_number-year-requires-clause-some
small_number-year-requires-clause-some c =
    let long = (year_field c.args.day.now c.requires).long in omega (arith, long)

pub small_number-year-requires-clause-few : goal.small_number-year-requires-clause-few
small_number-year-requires-clause-few c =
    let long = (year_field c.args.day.now c.requires).long in omega (arith, long)

pub small_number-year-requires-clause-digits : goal.small_number-year-requires-clause-digits
small_number-year-requires-clause-digits c =
    (year_field c.args.day.now c.requires).digits

pub small_number-month-requires-clause-some : goal.small_number-month-requires-clause-some
small_number-month-requires-clause-some c =
    let long = (month_field c.args.day.now c.requires).long in omega (arith, long)

pub small_number-month-requires-clause-few : goal.small_number-month-requires-clause-few
small_number-month-requires-clause-few c =
    let long = (month_field c.args.day.now c.requires).long in omega (arith, long)

pub small_number-month-requires-clause-digits : goal.small_number-month-requires-clause-digits
small_number-month-requires-clause-digits c =
    (month_field c.args.day.now c.requires).digits

pub small_number-day-requires-clause-some : goal.small_number-day-requires-clause-some
small_number-day-requires-clause-some c =
    let long = (day_field c.args.day.now c.requires).long in omega (arith, long)

pub small_number-day-requires-clause-few : goal.small_number-day-requires-clause-few
small_number-day-requires-clause-few c =
    let long = (day_field c.args.day.now c.requires).long in omega (arith, long)

pub small_number-day-requires-clause-digits : goal.small_number-day-requires-clause-digits
small_number-day-requires-clause-digits c =
    (day_field c.args.day.now c.requires).digits

pub slice_bounds-small_number-end : goal.slice_bounds-small_number-end
slice_bounds-small_number-end c =
    sym (year_field c.args.day.now c.requires).long

pub slice_bounds-small_number-count-2 : goal.slice_bounds-small_number-count-2
slice_bounds-small_number-count-2 c =
    let long = ten c.args.day.now c.requires in omega (arith, long)

pub has_day-requires-clause-year : goal.has_day-requires-clause-year
has_day-requires-clause-year c =
    rw (year_field c.args.day.now c.requires).long at c.small_number-year.ensures.small

pub has_day-requires-clause-month : goal.has_day-requires-clause-month
has_day-requires-clause-month c =
    rw (month_field c.args.day.now c.requires).long at c.small_number-month.ensures.small

pub has_day-requires-clause-day : goal.has_day-requires-clause-day
has_day-requires-clause-day c =
    rw (day_field c.args.day.now c.requires).long at c.small_number-day.ensures.small

pub returns-then-has_day : goal.returns-then-has_day
returns-then-has_day c =
    day_there c.args.day.now _ _ _ c.requires record {
      year = c.small_number-year.ensures.value;
      month = c.small_number-month.ensures.value;
      day = c.small_number-day.ensures.value;
    }
    (sym c.has_day.ensures ∙ c.if-has_day.true)

pub returns-else-has_day : goal.returns-else-has_day
returns-else-has_day c =
    no_day c.args.day.now _ _ _ c.requires record {
      year = c.small_number-year.ensures.value;
      month = c.small_number-month.ensures.value;
      day = c.small_number-day.ensures.value;
    }
    (sym c.has_day.ensures ∙ c.if-has_day.false)
