-- What contracts see of this crate's types: an expression is its tree.
use Rattle.vk_spec.specs.Conditions.{Condition, always, mark, negation, all, any, conditions_of}
use Rattle.vk_expr.specs.declared.exprs.Expr.{Expr, fold-Expr}
use Rattle.vk_expr.specs.declared.exprs.Expr.TheOpen.{Expr-F}

-- one level of an expression whose parts are trees already
abbrev pub condition_step : Expr-F Condition → Condition
condition_step Expr-F.Always = always
condition_step (Expr-F.Mark name) = mark name
condition_step (Expr-F.Not e) = negation e.value
condition_step (Expr-F.All es) = all (conditions_of es.items)
condition_step (Expr-F.Any es) = any (conditions_of es.items)

-- the tree of an expression, in which a box is its content and a vector its list
abbrev pub condition_of : Expr → Condition
condition_of = fold-Expr Condition condition_step
