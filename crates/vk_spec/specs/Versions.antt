-- Versions and asks as plain data.
use Rattle.std.specs.Prelude.{◌≡◌, ◌&&◌, ◌==◌, ℕ, Bool, true, false, List, bytes_eq}

-- versions of different classes are never compared
pub data Class : Type 0 where
  dot : Class
  date : Class
  text : Class

-- a version: two are the same where class, text and port-version are
pub record Version : Type 0 where
  pub class : Class
  pub text : List ℕ
  pub port : ℕ

-- what a minimum, a baseline entry or an override asks for: a text without a scheme, and a port-version
pub record Ask : Type 0 where
  pub text : List ℕ
  pub port : ℕ

-- the ask that means a version
abbrev pub ask_of : Version → Ask
ask_of v = record { text = v.text; port = v.port }

-- asks are the same where text and port-version are
abbrev pub same_ask : Ask → Ask → Bool
same_ask a b = bytes_eq a.text b.text && (a.port == b.port)

-- whether two classes are one
abbrev pub same_class : Class → Class → Bool
same_class dot dot = true
same_class dot date = false
same_class dot text = false
same_class date dot = false
same_class date date = true
same_class date text = false
same_class text dot = false
same_class text date = false
same_class text text = true

-- versions are the same where class, text and port-version are
abbrev pub same_version : Version → Version → Bool
same_version v w = same_class v.class w.class && same_ask (ask_of v) (ask_of w)

-- what an order on versions has to be, where `at_most` says whether one is at most another: it need not compare any two
pub record IsOrder (at_most : Version → Version → Bool) : Type 0 where
  pub reflexive : (v : Version) → at_most v v ≡ true
  pub transitive : (u v w : Version) → at_most u v ≡ true → at_most v w ≡ true → at_most u w ≡ true
  pub antisymmetric : (v w : Version) → at_most v w ≡ true → at_most w v ≡ true → v ≡ w
