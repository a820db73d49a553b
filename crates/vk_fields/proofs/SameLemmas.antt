-- The version of two values that have the same members under its keys.
use Rattle.std.proofs.Common.{◌≡◌, ap, refl}
use Rattle.std.specs.Prelude.{Option, Some, None, Ok, codes}
use Rattle.serde_json.specs.Data.{Data}
use Rattle.serde_json.specs.Find.{get}
use Rattle.vk_spec.specs.Reading.{◌>>=◌, or_fault}
use Rattle.vk_json.specs.declared.faults.Why.TheVariants as why
use Rattle.vk_json.specs.Places.{here}
use Rattle.vk_json.proofs.SameLemmas.{then_same, wanted_same, optional_same, optional_or_same}
use Rattle.vk_json.specs.Readings.{number_at}
use Rattle.vk_version.specs.Schemes.{Scheme, relaxed, semver, date, string}
use Rattle.vk_fields.specs.Texts.{plain_at, written_at}
use Rattle.vk_fields.specs.Versions.{key_of, scheme_in, scheme_needed, port_version_at}
use Rattle.vk_fields.specs.Versions.{version_text_at, version_under, version_if, version_at}
use Rattle.vk_fields.specs.Versions.{version_needed_at, ask_under}
use Rattle.vk_fields.specs.Versions.{written_ask_under}

module _ (d e : Data) (same : (scheme : Scheme) → get (key_of scheme) d ≡ get (key_of scheme) e) where
  pub scheme_same : scheme_in d ≡ scheme_in e
  scheme_same = rw (same relaxed, same semver, same date, same string) refl

  pub scheme_needed_same : scheme_needed d ≡ scheme_needed e
  scheme_needed_same = ap (λ found. found >>= or_fault (here why.NoVersion)) scheme_same

  module _ (same_port : get (codes "port-version") d ≡ get (codes "port-version") e) where
    port_same : port_version_at d ≡ port_version_at e
    port_same = optional_or_same number_at (codes "port-version") d e same_port 0

    under_same : (scheme : Scheme) → version_under scheme d ≡ version_under scheme e
    unfolding version_under
    under_same scheme =
        then_same (wanted_same (version_text_at scheme) (key_of scheme) d e (same scheme))
        (λ version. then_same port_same (λ port. refl))

    if_same : (scheme : Option Scheme) → version_if scheme d ≡ version_if scheme e
    if_same None = ap (λ read. read >>= λ port. Ok None) port_same
    if_same (Some scheme) = ap (λ read. read >>= λ version. Ok (Some version)) (under_same scheme)

    pub version_same : version_at d ≡ version_at e
    unfolding version_at
    version_same = then_same scheme_same if_same

    pub version_needed_same : version_needed_at d ≡ version_needed_at e
    unfolding version_needed_at
    version_needed_same = then_same scheme_needed_same under_same

    pub ask_same : (scheme : Scheme) → ask_under (key_of scheme) d ≡ ask_under (key_of scheme) e
    unfolding ask_under
    ask_same scheme =
        then_same (wanted_same plain_at (key_of scheme) d e (same scheme))
        (λ text. then_same port_same (λ port. refl))

    pub written_ask_same : (scheme : Scheme) → written_ask_under (key_of scheme) d ≡ written_ask_under (key_of scheme) e
    unfolding written_ask_under
    written_ask_same scheme =
        then_same (wanted_same written_at (key_of scheme) d e (same scheme))
        (λ written. then_same (optional_same number_at (codes "port-version") d e same_port)
        (λ port. refl))
