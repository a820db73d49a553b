-- The word for what is wrong with a text.
use Rattle.vk_base.specs.declared.names.NameFault.{NameFault}
use Rattle.vk_base.specs.declared.names.NameFault.TheVariants as name
use Rattle.vk_base.specs.declared.paths.PathFault.{PathFault}
use Rattle.vk_version.specs.declared.faults.VersionFault.{VersionFault}
use Rattle.vk_version.specs.declared.faults.VersionFault.TheVariants as version
use Rattle.vk_expr.specs.declared.faults.ExprFault.{ExprFault}
use Rattle.vk_expr.specs.declared.faults.ExprFault.TheVariants as expression
use Rattle.vk_json.specs.declared.faults.Why.{Why}
use Rattle.vk_json.specs.declared.faults.Why.TheVariants as why

abbrev pub name_word : NameFault → Why
name_word (name.Bad at) = why.Name
name_word name.Reserved = why.Reserved

-- whatever is wrong with a path, it is no path
abbrev pub path_word : PathFault → Why
path_word wrong = why.Path

abbrev pub version_word : VersionFault → Why
version_word version.Shape = why.Version
version_word version.Number = why.Range
version_word version.Day = why.Day

abbrev pub expression_word : ExprFault → Why
expression_word (expression.Unexpected at) = why.Unexpected at
expression_word (expression.Mixed at) = why.Mixed at
expression_word (expression.Open at) = why.Open at
expression_word expression.Deep = why.Depth
