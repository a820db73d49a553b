-- What contracts see of this crate's types, in the plain words of versions.
use Rattle.vk_spec.specs.Versions as plain
use Rattle.vk_version.specs.Schemes as the
use Rattle.vk_version.specs.declared.schemes.Scheme.{Scheme}
use Rattle.vk_version.specs.declared.schemes.Scheme.TheVariants as scheme
use Rattle.vk_version.specs.declared.schemes.Class.{Class}
use Rattle.vk_version.specs.declared.schemes.Class.TheVariants as class

abbrev pub scheme_view : Scheme → the.Scheme
scheme_view scheme.Relaxed = the.relaxed
scheme_view scheme.Semver = the.semver
scheme_view scheme.Date = the.date
scheme_view scheme.Text = the.string

abbrev pub class_view : Class → plain.Class
class_view class.Dot = plain.dot
class_view class.Date = plain.date
class_view class.Text = plain.text
