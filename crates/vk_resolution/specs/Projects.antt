-- Worked projects: the setting and the pages of each, and what it prints.
use Rattle.std.specs.Prelude.{ℕ, true, false, List, [], ◌∷◌, Some, None, Ok, Err, codes}
use Rattle.vk_spec.specs.Paths.{Path}
use Rattle.vk_spec.specs.Versions.{Version, date, text}
use Rattle.vk_spec.specs.Manifests.{Manifest, Dependency, Feature, core}
use Rattle.vk_spec.specs.Pages.{Wrong, bad_file, baseline, overlay, override, Row, Page}
use Rattle.vk_spec.specs.Conditions.{Condition, always, mark, negation, all, condition, no_conditions}
use Rattle.vk_spec.specs.Settings.{Instance}
use Rattle.vk_resolution.specs.Settings.{root, inst}
use Rattle.vk_resolution.specs.Asking.{need, floor, visit}
use Rattle.vk_resolution.specs.Consequences.{Inputs, by_root, by_baseline, by_override, by_overlay, by_minimum, by_one, by_two}
use Rattle.vk_resolution.specs.Reasons.{Reason}
use Rattle.vk_resolution.specs.Faults.{troubled, unreadable, conflicts, lacks_feature, isnt_supported, has_cycle}
use Rattle.vk_resolution.specs.Examples.{version, ask, on, at_least, use_of, manifest, release, listed, pages_of, root_with, setting, x64_linux, arm64_linux, project, x64, at_most, Line, Report, plans, refuses}

-- the ports and features of these projects, and their versions
abbrev pub a : List ℕ
a = codes "a"

abbrev pub b : List ℕ
b = codes "b"

abbrev pub c : List ℕ
c = codes "c"

abbrev pub d : List ℕ
d = codes "d"

abbrev pub e : List ℕ
e = codes "e"

abbrev pub f : List ℕ
f = codes "f"

abbrev pub g : List ℕ
g = codes "g"

abbrev pub p : List ℕ
p = codes "p"

abbrev pub q : List ℕ
q = codes "q"

abbrev pub s : List ℕ
s = codes "s"

abbrev pub t : List ℕ
t = codes "t"

abbrev pub u : List ℕ
u = codes "u"

abbrev pub w : List ℕ
w = codes "w"

abbrev pub x : List ℕ
x = codes "x"

abbrev pub y : List ℕ
y = codes "y"

abbrev pub one : List ℕ
one = codes "1"

abbrev pub three : List ℕ
three = codes "3"

abbrev pub one_dot : List ℕ
one_dot = codes "1.0"

abbrev pub two_dot : List ℕ
two_dot = codes "2.0"

-- a plan line for x64-linux with `core` alone
abbrev pub planned_line : List ℕ → List ℕ → ℕ → Line
planned_line port v n = record { port = port; triplet = codes "x64-linux"; version = v; number = n; features = core ∷ [] }

-- a plan line with more features
abbrev pub line_with : List ℕ → List ℕ → ℕ → List (List ℕ) → Line
line_with port v n fs = record { port = port; triplet = codes "x64-linux"; version = v; number = n; features = core ∷ fs }

-- a port with one version, 1
abbrev pub single : List ℕ → List (Dependency Condition) → List ℕ × Page Condition
single port ds = (port, listed one (release port one ds ∷ []))

-- a raised minimum: b is 1.1 by its baseline, and a asks for 1.2
abbrev pub raised_minimum : Inputs
raised_minimum = project (on a ∷ []) (pages_of (
    (a, listed one_dot (release a one_dot (at_least b (codes "1.2") ∷ []) ∷ []))
    ∷ (b, listed (codes "1.1") (release b (codes "1.1") [] ∷ release b (codes "1.2") [] ∷ release b (codes "1.3") [] ∷ []))
    ∷ []))

abbrev pub raised_minimum_report : Report
raised_minimum_report = plans (planned_line b (codes "1.2") 10 ∷ planned_line a one_dot 5 ∷ []) 15

-- its reasons, line by line
abbrev pub default : List ℕ
default = codes "default"

abbrev pub raised_minimum_reasons : List Reason
raised_minimum_reasons =
    record { fact = need (root (codes "x64-linux")) core; cause = by_root }
    ∷ record { fact = need (root (codes "x64-linux")) default; cause = by_root }
    ∷ record { fact = need (inst (x64 a)) core; cause = by_one 1 }
    ∷ record { fact = need (inst (x64 a)) default; cause = by_one 1 }
    ∷ record { fact = floor a (ask one_dot); cause = by_baseline 3 }
    ∷ record { fact = visit (x64 a) core (ask one_dot); cause = by_two 3 5 }
    ∷ record { fact = visit (x64 a) default (ask one_dot); cause = by_two 4 5 }
    ∷ record { fact = need (inst (x64 b)) core; cause = by_one 6 }
    ∷ record { fact = need (inst (x64 b)) default; cause = by_one 6 }
    ∷ record { fact = floor b (ask (codes "1.2")); cause = by_minimum 6 }
    ∷ record { fact = floor b (ask (codes "1.1")); cause = by_baseline 8 }
    ∷ record { fact = visit (x64 b) core (ask (codes "1.2")); cause = by_two 8 10 }
    ∷ record { fact = visit (x64 b) default (ask (codes "1.2")); cause = by_two 9 10 }
    ∷ record { fact = visit (x64 b) core (ask (codes "1.1")); cause = by_two 8 11 }
    ∷ record { fact = visit (x64 b) default (ask (codes "1.1")); cause = by_two 9 11 }
    ∷ []

-- a's baseline version is superseded, and the minimum that it alone asks still counts
abbrev pub superseded : List (Dependency Condition) → Inputs
superseded ds = project ds (pages_of (
    (a, listed one_dot (release a one_dot (at_least b three ∷ []) ∷ release a two_dot [] ∷ []))
    ∷ (b, listed one (release b one [] ∷ release b three [] ∷ []))
    ∷ single c (at_least a two_dot ∷ [])
    ∷ []))

abbrev pub superseded_minimum : Inputs
superseded_minimum = superseded (on a ∷ on b ∷ on c ∷ [])

abbrev pub superseded_minimum_report : Report
superseded_minimum_report = plans (planned_line a two_dot 18 ∷ planned_line b three 19 ∷ planned_line c one 11 ∷ []) 23

-- b is reached only from the superseded version, and isn't planned
abbrev pub superseded_reach : Inputs
superseded_reach = superseded (on a ∷ on c ∷ [])

abbrev pub superseded_reach_report : Report
superseded_reach_report = plans (planned_line a two_dot 15 ∷ planned_line c one 8 ∷ []) 23

-- two texts of `version-string` are unrelated
abbrev pub text_version : List ℕ → Version
text_version v = record { class = text; text = v; port = 0 }

abbrev pub text_release : List ℕ → List ℕ → Row Condition
text_release port v = record { version = text_version v; manifest = Ok (manifest port (text_version v) []) }

abbrev pub alpha : List ℕ
alpha = codes "alpha"

abbrev pub beta : List ℕ
beta = codes "beta"

abbrev pub conflict : Inputs
conflict = project (on p ∷ on q ∷ []) (pages_of (
    single p (on s ∷ [])
    ∷ single q (at_least s beta ∷ [])
    ∷ (s, listed alpha (text_release s alpha ∷ text_release s beta ∷ []))
    ∷ []))

abbrev pub conflict_report : Report
conflict_report = refuses (conflicts s (text_version alpha) 16 (text_version beta) 15 ∷ []) 20

-- an override settles it
abbrev pub root_overriding : List (Dependency Condition) → List ℕ → List ℕ → Manifest Condition
root_overriding ds port v = record {
  name = None;
  version = None;
  supports = always;
  dependencies = ds;
  default_features = [];
  features = [];
  overrides = record { name = port; ask = ask v } ∷ [];
}

abbrev pub overridden : Inputs
overridden = record {
  setting = setting (root_overriding (on p ∷ on q ∷ []) s alpha) x64_linux x64_linux [];
  pages = pages_of (
      single p (on s ∷ [])
      ∷ single q (at_least s beta ∷ [])
      ∷ (s, record { given = Ok (override (ask alpha)); rows = text_release s alpha ∷ text_release s beta ∷ [] })
      ∷ []);
  at_most = at_most;
}

abbrev pub overridden_report : Report
overridden_report = plans (planned_line s alpha 15 ∷ planned_line p one 7 ∷ planned_line q one 8 ∷ []) 17

-- a feature that only one version has
abbrev pub feature : List ℕ → List (Dependency Condition) → Feature Condition
feature name ds = record { name = name; dependencies = ds; supports = always }

abbrev pub release_with : List ℕ → List ℕ → List (Feature Condition) → Row Condition
release_with port v fs = record {
  version = version v;
  manifest = Ok (record { name = Some port; version = Some (version v); supports = always; dependencies = []; default_features = []; features = fs; overrides = [] });
}

abbrev pub with_features : Dependency Condition → List ℕ → Dependency Condition
with_features dep name = record { name = dep.name; defaults = dep.defaults; features = use_of name ∷ []; host = dep.host; platform = dep.platform; minimum = dep.minimum }

abbrev pub one_version_feature : List (Feature Condition) → List (Feature Condition) → Inputs
one_version_feature before after = project (with_features (on a) x ∷ on c ∷ []) (pages_of (
    single c (at_least a two_dot ∷ [])
    ∷ (a, listed one_dot (release_with a one_dot before ∷ release_with a two_dot after ∷ []))
    ∷ []))

abbrev pub new_feature : Inputs
new_feature = one_version_feature [] (feature x [] ∷ [])

abbrev pub new_feature_report : Report
new_feature_report = plans (line_with a two_dot 15 (x ∷ []) ∷ planned_line c one 9 ∷ []) 18

abbrev pub dropped_feature : Inputs
dropped_feature = one_version_feature (feature x [] ∷ []) []

abbrev pub dropped_feature_report : Report
dropped_feature_report = refuses (lacks_feature (inst (x64 a)) x (Some (version two_dot)) 5 ∷ []) 18

-- default features: only the root can switch them off
abbrev pub without_defaults : Dependency Condition → Dependency Condition
without_defaults dep = record { name = dep.name; defaults = false; features = dep.features; host = dep.host; platform = dep.platform; minimum = dep.minimum }

abbrev pub where_marked : Dependency Condition → List ℕ → Dependency Condition
where_marked dep m = record { name = dep.name; defaults = dep.defaults; features = dep.features; host = dep.host; platform = mark m; minimum = dep.minimum }

abbrev pub d_page : List ℕ × Page Condition
d_page = (
  d,
  listed one (record {
    version = version one;
    manifest = Ok (record { name = Some d; version = Some (version one); supports = always; dependencies = []; default_features = use_of f ∷ []; features = feature f [] ∷ []; overrides = [] });
  } ∷ []),
)

abbrev pub off_by_root : Inputs
off_by_root = record {
  setting = setting (root_with (without_defaults (on d) ∷ on e ∷ [])) x64_linux x64_linux (x64 d ∷ []);
  pages = pages_of (d_page ∷ single e (on d ∷ []) ∷ []);
  at_most = at_most;
}

abbrev pub off_by_root_report : Report
off_by_root_report = plans (planned_line d one 6 ∷ planned_line e one 7 ∷ []) 10

-- host instances
abbrev pub for_host : Dependency Condition → Dependency Condition
for_host dep = record { name = dep.name; defaults = dep.defaults; features = dep.features; host = true; platform = dep.platform; minimum = dep.minimum }

abbrev pub where_not : Dependency Condition → List ℕ → Dependency Condition
where_not dep m = record { name = dep.name; defaults = dep.defaults; features = dep.features; host = dep.host; platform = negation (mark m); minimum = dep.minimum }

abbrev pub host_pages : List (List ℕ × Page Condition)
host_pages = single t [] ∷ single u (for_host (on t) ∷ where_not (on w) (codes "native") ∷ []) ∷ single w [] ∷ []

abbrev pub cross_build : Inputs
cross_build = record {
  setting = setting (root_with (for_host (on t) ∷ on u ∷ [])) arm64_linux x64_linux [];
  pages = pages_of host_pages;
  at_most = at_most;
}

abbrev pub arm_line : List ℕ → ℕ → Line
arm_line port n = record { port = port; triplet = codes "arm64-linux"; version = one; number = n; features = core ∷ [] }

abbrev pub cross_build_report : Report
cross_build_report = plans (planned_line t one 7 ∷ arm_line w 15 ∷ arm_line u 8 ∷ []) 17

-- a cycle of three, two cycles of two, and a port that asks for a feature of its own
abbrev pub cycle : Inputs
cycle = project (on a ∷ []) (pages_of (single a (on b ∷ []) ∷ single b (on c ∷ []) ∷ single c (on a ∷ []) ∷ []))

abbrev pub cycle_report : Report
cycle_report = refuses (has_cycle (x64 a ∷ x64 b ∷ x64 c ∷ []) ∷ []) 17

-- an overlay has its own version alone, and what it doesn't support is judged
abbrev pub overlaid : Condition → Inputs
overlaid supports = project (at_least b (codes "9") ∷ []) (pages_of ((
  b,
  record {
    given = Ok (overlay (version (codes "2")));
    rows = record {
      version = version (codes "2");
      manifest = Ok (record { name = Some b; version = Some (version (codes "2")); supports = supports; dependencies = []; default_features = []; features = []; overrides = [] });
    } ∷ [];
  },
)
    ∷ []))

abbrev pub unsupported_port : Inputs
unsupported_port = overlaid (mark (codes "windows"))

abbrev pub unsupported_port_report : Report
unsupported_port_report = refuses (isnt_supported (inst (x64 b)) core (Some (version (codes "2"))) 3 ∷ []) 7

-- a project as people have them: a host tool under `version-date`, a default feature, and a feature with a platform
abbrev pub fmt : List ℕ
fmt = codes "fmt"

abbrev pub curl : List ℕ
curl = codes "curl"

abbrev pub ssl : List ℕ
ssl = codes "ssl"

abbrev pub zlib : List ℕ
zlib = codes "zlib"

abbrev pub openssl : List ℕ
openssl = codes "openssl"

abbrev pub cmake : List ℕ
cmake = codes "vcpkg-cmake"

abbrev pub cmake_day : List ℕ
cmake_day = codes "2023-05-04"

abbrev pub day_version : List ℕ → Version
day_version v = record { class = date; text = v; port = 0 }

abbrev pub not_on_desktop : Condition
not_on_desktop = negation (all (condition (mark (codes "windows")) (condition (negation (mark (codes "uwp"))) no_conditions)))

abbrev pub curl_manifest : Manifest Condition
curl_manifest = record {
  name = Some curl;
  version = Some (version (codes "8.4.0"));
  supports = always;
  dependencies = on zlib ∷ for_host (on cmake) ∷ [];
  default_features = use_of ssl ∷ [];
  features = record { name = ssl; dependencies = record { name = openssl; defaults = true; features = []; host = false; platform = not_on_desktop; minimum = None } ∷ []; supports = always } ∷ [];
  overrides = [];
}

abbrev pub with_cmake : List ℕ → List ℕ → List ℕ × Page Condition
with_cmake port v = (port, listed v (release port v (for_host (on cmake) ∷ []) ∷ []))

abbrev pub realistic : Inputs
realistic = project (on fmt ∷ with_features (on curl) ssl ∷ on zlib ∷ for_host (on cmake) ∷ []) (pages_of (
    with_cmake fmt (codes "10.1.1")
    ∷ with_cmake zlib (codes "1.3")
    ∷ with_cmake openssl (codes "3.1.3")
    ∷ (cmake, listed cmake_day (record { version = day_version cmake_day; manifest = Ok (manifest cmake (day_version cmake_day) []) } ∷ []))
    ∷ (curl, listed (codes "8.4.0") (record { version = version (codes "8.4.0"); manifest = Ok curl_manifest } ∷ []))
    ∷ []))

abbrev pub realistic_report : Report
realistic_report =
    plans (planned_line cmake cmake_day 14 ∷ planned_line fmt (codes "10.1.1") 13 ∷ planned_line openssl (codes "3.1.3") 27 ∷ planned_line zlib (codes "1.3") 15 ∷ line_with curl (codes "8.4.0") 12 (ssl ∷ []) ∷ []) 29

-- files that can't be read, and a manifest that isn't what the table says
abbrev pub manifest_path : Path
manifest_path = codes "." ∷ codes "reg" ∷ codes "ports" ∷ codes "a" ∷ codes "1.0" ∷ codes "vcpkg.json" ∷ []

abbrev pub with_wrong : Wrong → Inputs
with_wrong wrong = project (on a ∷ []) (pages_of ((a, listed one_dot (record { version = version one_dot; manifest = Err wrong } ∷ [])) ∷ []))

abbrev pub damaged_manifest : Inputs
damaged_manifest = with_wrong (bad_file manifest_path [] (codes "json"))

abbrev pub damaged_manifest_report : Report
damaged_manifest_report = refuses (troubled (unreadable manifest_path [] (codes "json")) 6 ∷ []) 7

-- the platform of a host dependency is judged by the one that depends, and what an instance supports by the instance itself
abbrev pub x64_only : List ℕ × Page Condition
x64_only = (
  t,
  listed one (record {
    version = version one;
    manifest = Ok (record { name = Some t; version = Some (version one); supports = mark (codes "x64"); dependencies = []; default_features = []; features = []; overrides = [] });
  } ∷ []),
)

abbrev pub host_platform : Inputs
host_platform = record {
  setting = setting (root_with (on u ∷ [])) arm64_linux x64_linux [];
  pages = pages_of (x64_only ∷ single u (where_marked (for_host (on t)) (codes "arm64") ∷ where_marked (for_host (on w)) (codes "x64") ∷ []) ∷ single w [] ∷ []);
  at_most = at_most;
}

abbrev pub host_platform_report : Report
host_platform_report = plans (planned_line t one 10 ∷ arm_line u 5 ∷ []) 12

-- a minimum on one's own port and triplet is a floor, and what only the lower version asks of itself isn't planned
abbrev pub own_at_least : Dependency Condition
own_at_least = record { name = g; defaults = false; features = use_of y ∷ []; host = false; platform = always; minimum = Some (ask (codes "2")) }

abbrev pub own_minimum : Inputs
own_minimum = project (with_features (on g) x ∷ []) (pages_of (
    (g, listed one (release_with g one (feature y [] ∷ feature x (own_at_least ∷ []) ∷ []) ∷ release_with g (codes "2") (feature y [] ∷ feature x [] ∷ []) ∷ []))
    ∷ []))

abbrev pub own_minimum_report : Report
own_minimum_report = plans (line_with g (codes "2") 11 (x ∷ []) ∷ []) 16

-- the root's own name for the target asks for features of the root, and for no minimum; for the host it is a port like any other
abbrev pub named_root : Inputs
named_root = record {
  setting = record {
    root = record {
      name = Some g;
      version = None;
      supports = always;
      dependencies = own_at_least ∷ for_host (without_defaults (on g)) ∷ [];
      default_features = [];
      features = feature y (on a ∷ []) ∷ [];
      overrides = [];
    };
    target = arm64_linux;
    host = x64_linux;
    features = [];
    defaults = false;
    off = x64 g ∷ [];
    max_facts = 1000;
  };
  pages = pages_of (single a [] ∷ single g [] ∷ []);
  at_most = at_most;
}

abbrev pub named_root_report : Report
named_root_report = plans (arm_line a 7 ∷ planned_line g one 6 ∷ []) 10

-- what the items of the realistic project need, by their places from 0
abbrev pub realistic_needs : List (List ℕ)
realistic_needs = [] ∷ (0 ∷ []) ∷ (0 ∷ []) ∷ (0 ∷ []) ∷ (0 ∷ 2 ∷ 3 ∷ []) ∷ []

-- a feature whose name stands before `core`: its need comes first, and in a plan line `core` does
abbrev pub bz2 : List ℕ
bz2 = codes "bz2"

abbrev pub early_feature : Inputs
early_feature = project (with_features (on d) bz2 ∷ []) (pages_of ((d, listed one (release_with d one (feature bz2 [] ∷ []) ∷ [])) ∷ []))

abbrev pub early_feature_report : Report
early_feature_report = plans (line_with d one 6 (bz2 ∷ []) ∷ []) 9

-- a project that leads into a cycle, which its least instance isn't on
abbrev pub leads_in : Inputs
leads_in = project (on a ∷ []) (pages_of (single a (on b ∷ []) ∷ single b (on c ∷ []) ∷ single c (on b ∷ []) ∷ []))

abbrev pub leads_in_report : Report
leads_in_report = refuses (has_cycle (x64 b ∷ x64 c ∷ []) ∷ []) 17

-- a version with a port-version, its row, and a dependency with such a minimum
abbrev pub ported : Version → ℕ → Version
ported v n = record { class = v.class; text = v.text; port = n }

abbrev pub bare_row : List ℕ → Version → Row Condition
bare_row port v = record { version = v; manifest = Ok (manifest port v []) }

-- floors in conflict are told by text first, and then by port-version
abbrev pub conflict_by_text : Inputs
conflict_by_text = project (on p ∷ on q ∷ []) (pages_of (
    single p (on s ∷ [])
    ∷ single q (at_least s beta ∷ [])
    ∷ (s, record { given = Ok (baseline (record { text = alpha; port = 1 })); rows = bare_row s (ported (text_version alpha) 1) ∷ text_release s beta ∷ [] })
    ∷ []))

abbrev pub conflict_by_text_report : Report
conflict_by_text_report = refuses (conflicts s (ported (text_version alpha) 1) 16 (text_version beta) 15 ∷ []) 20

-- and so does what the root asks of itself
abbrev pub off_by_own_feature : Inputs
off_by_own_feature = record {
  setting = setting (record {
    name = Some g;
    version = None;
    supports = always;
    dependencies = with_features (on g) y ∷ [];
    default_features = [];
    features = feature y (without_defaults (on d) ∷ []) ∷ [];
    overrides = [];
  }) x64_linux x64_linux (x64 d ∷ []);
  pages = pages_of (d_page ∷ []);
  at_most = at_most;
}

abbrev pub off_by_own_feature_report : Report
off_by_own_feature_report = plans (planned_line d one 5 ∷ []) 6

-- every kind of cause: x of a asks a itself for y and a higher minimum, y has a host tool, d is off for the target alone, p is overridden, w overlaid
abbrev pub two : List ℕ
two = codes "2"

abbrev pub one_one : List ℕ
one_one = codes "1.1"

abbrev pub one_two : List ℕ
one_two = codes "1.2"

abbrev pub arm64 : List ℕ → Instance
arm64 port = record { port = port; triplet = codes "arm64-linux" }

abbrev pub a_row : List ℕ → Dependency Condition → Dependency Condition → List (Dependency Condition) → Row Condition
a_row v on_w of_x of_y = record {
  version = version v;
  manifest = Ok (record {
    name = Some a;
    version = Some (version v);
    supports = always;
    dependencies = on_w ∷ [];
    default_features = use_of f ∷ [];
    features = feature f [] ∷ feature x (of_x ∷ []) ∷ feature y of_y ∷ [];
    overrides = [];
  });
}

abbrev pub every_cause : Inputs
every_cause = record {
  setting = setting (root_overriding (with_features (at_least a one_one) x ∷ without_defaults (on d) ∷ at_least p (codes "9") ∷ []) p one) arm64_linux x64_linux (arm64 d ∷ []);
  pages = pages_of ((
    a,
    listed one_dot (
        release a one_dot []
        ∷ a_row one_one (at_least w (codes "9")) (with_features (at_least a one_two) y) []
        ∷ a_row one_two (on w) (with_features (on a) y) (for_host (on t) ∷ [])
        ∷ []),
  )
      ∷ d_page
      ∷ (p, record { given = Ok (override (ask one)); rows = release p one [] ∷ release p (codes "9") [] ∷ [] })
      ∷ single t (on d ∷ [])
      ∷ (w, record { given = Ok (overlay (version two)); rows = release w two [] ∷ [] })
      ∷ []);
  at_most = at_most;
}

abbrev pub arm_line_with : List ℕ → List ℕ → ℕ → List (List ℕ) → Line
arm_line_with port v n fs = record { port = port; triplet = codes "arm64-linux"; version = v; number = n; features = core ∷ fs }

abbrev pub every_cause_report : Report
every_cause_report =
    plans (arm_line d 11 ∷ line_with d one 11 (f ∷ []) ∷ arm_line p 12 ∷ arm_line_with w two 27 [] ∷ planned_line t one 41 ∷ arm_line_with a one_two 20 (f ∷ x ∷ y ∷ []) ∷ []) 49

abbrev pub every_cause_needs : List (List ℕ)
every_cause_needs = [] ∷ [] ∷ [] ∷ [] ∷ (1 ∷ []) ∷ (3 ∷ 4 ∷ []) ∷ []

-- its reasons, line by line
abbrev pub every_cause_reasons : List Reason
every_cause_reasons =
    record { fact = need (root (codes "arm64-linux")) core; cause = by_root }
    ∷ record { fact = need (root (codes "arm64-linux")) default; cause = by_root }
    ∷ record { fact = need (inst (arm64 a)) core; cause = by_one 1 }
    ∷ record { fact = need (inst (arm64 a)) default; cause = by_one 1 }
    ∷ record { fact = need (inst (arm64 a)) x; cause = by_one 1 }
    ∷ record { fact = need (inst (arm64 d)) core; cause = by_one 1 }
    ∷ record { fact = need (inst (arm64 p)) core; cause = by_one 1 }
    ∷ record { fact = need (inst (arm64 p)) default; cause = by_one 1 }
    ∷ record { fact = floor a (ask one_one); cause = by_minimum 1 }
    ∷ record { fact = floor a (ask one_dot); cause = by_baseline 3 }
    ∷ record { fact = floor d (ask one); cause = by_baseline 6 }
    ∷ record { fact = floor p (ask one); cause = by_override 7 }
    ∷ record { fact = visit (arm64 a) core (ask one_one); cause = by_two 3 9 }
    ∷ record { fact = visit (arm64 a) default (ask one_one); cause = by_two 4 9 }
    ∷ record { fact = visit (arm64 a) x (ask one_one); cause = by_two 5 9 }
    ∷ record { fact = need (inst (arm64 a)) f; cause = by_one 14 }
    ∷ record { fact = need (inst (arm64 a)) y; cause = by_one 15 }
    ∷ record { fact = need (inst (arm64 w)) core; cause = by_one 13 }
    ∷ record { fact = need (inst (arm64 w)) default; cause = by_one 13 }
    ∷ record { fact = floor a (ask one_two); cause = by_minimum 15 }
    ∷ record { fact = visit (arm64 a) core (ask one_dot); cause = by_two 3 10 }
    ∷ record { fact = visit (arm64 a) default (ask one_dot); cause = by_two 4 10 }
    ∷ record { fact = visit (arm64 a) x (ask one_dot); cause = by_two 5 10 }
    ∷ record { fact = visit (arm64 d) core (ask one); cause = by_two 6 11 }
    ∷ record { fact = visit (arm64 p) core (ask one); cause = by_two 7 12 }
    ∷ record { fact = visit (arm64 p) default (ask one); cause = by_two 8 12 }
    ∷ record { fact = floor w (ask two); cause = by_overlay 18 }
    ∷ record { fact = visit (arm64 a) core (ask one_two); cause = by_two 3 20 }
    ∷ record { fact = visit (arm64 a) default (ask one_two); cause = by_two 4 20 }
    ∷ record { fact = visit (arm64 a) f (ask one_dot); cause = by_two 16 10 }
    ∷ record { fact = visit (arm64 a) f (ask one_one); cause = by_two 16 9 }
    ∷ record { fact = visit (arm64 a) f (ask one_two); cause = by_two 16 20 }
    ∷ record { fact = visit (arm64 a) x (ask one_two); cause = by_two 5 20 }
    ∷ record { fact = visit (arm64 a) y (ask one_dot); cause = by_two 17 10 }
    ∷ record { fact = visit (arm64 a) y (ask one_one); cause = by_two 17 9 }
    ∷ record { fact = visit (arm64 a) y (ask one_two); cause = by_two 17 20 }
    ∷ record { fact = need (inst (x64 t)) core; cause = by_one 36 }
    ∷ record { fact = need (inst (x64 t)) default; cause = by_one 36 }
    ∷ record { fact = visit (arm64 w) core (ask two); cause = by_two 18 27 }
    ∷ record { fact = visit (arm64 w) default (ask two); cause = by_two 19 27 }
    ∷ record { fact = floor t (ask one); cause = by_baseline 37 }
    ∷ record { fact = visit (x64 t) core (ask one); cause = by_two 37 41 }
    ∷ record { fact = visit (x64 t) default (ask one); cause = by_two 38 41 }
    ∷ record { fact = need (inst (x64 d)) core; cause = by_one 42 }
    ∷ record { fact = need (inst (x64 d)) default; cause = by_one 42 }
    ∷ record { fact = visit (x64 d) core (ask one); cause = by_two 44 11 }
    ∷ record { fact = visit (x64 d) default (ask one); cause = by_two 45 11 }
    ∷ record { fact = need (inst (x64 d)) f; cause = by_one 47 }
    ∷ record { fact = visit (x64 d) f (ask one); cause = by_two 48 11 }
    ∷ []

-- a port that is its own host tool: its instance for the target depends on the one for the host
abbrev pub own_host_tool : Inputs
own_host_tool = record {
  setting = setting (root_with (on p ∷ [])) arm64_linux x64_linux [];
  pages = pages_of (single p (for_host (on p) ∷ []) ∷ []);
  at_most = at_most;
}

abbrev pub own_host_tool_report : Report
own_host_tool_report = plans (planned_line p one 5 ∷ arm_line p 5 ∷ []) 11

abbrev pub own_host_tool_needs : List (List ℕ)
own_host_tool_needs = [] ∷ (0 ∷ []) ∷ []

-- two shortest ways back: the walk goes to the least port
abbrev pub tied_cycles : Inputs
tied_cycles = project (on a ∷ []) (pages_of (single a (on b ∷ on c ∷ []) ∷ single b (on a ∷ []) ∷ single c (on a ∷ []) ∷ []))

abbrev pub tied_cycles_report : Report
tied_cycles_report = refuses (has_cycle (x64 a ∷ x64 b ∷ []) ∷ []) 17

-- a shorter way back and a longer one: the walk takes the shorter
abbrev pub shorter_cycle : Inputs
shorter_cycle = project (on a ∷ []) (pages_of (single a (on b ∷ []) ∷ single b (on a ∷ on c ∷ []) ∷ single c (on a ∷ []) ∷ []))

abbrev pub shorter_cycle_report : Report
shorter_cycle_report = refuses (has_cycle (x64 a ∷ x64 b ∷ []) ∷ []) 17

-- a's baseline version is superseded, since c asks for the next, which asks for nothing
abbrev pub with_superseded : List (Dependency Condition) → Row Condition → List (List ℕ × Page Condition) → Inputs
with_superseded ds before others = project ds (pages_of ((a, listed one_dot (before ∷ release a two_dot [] ∷ [])) ∷ single c (at_least a two_dot ∷ []) ∷ others))

-- a cycle through a superseded version is none
abbrev pub superseded_cycle : Inputs
superseded_cycle = with_superseded (on a ∷ on b ∷ on c ∷ []) (release a one_dot (on b ∷ [])) (single b (on a ∷ []) ∷ [])

abbrev pub superseded_cycle_report : Report
superseded_cycle_report = plans (planned_line a two_dot 18 ∷ planned_line b one 10 ∷ planned_line c one 11 ∷ []) 20

-- a conflict through a superseded version is told all the same
abbrev pub superseded_conflict : Inputs
superseded_conflict = with_superseded (on a ∷ on c ∷ []) (release a one_dot (at_least s beta ∷ [])) ((s, listed alpha (text_release s alpha ∷ text_release s beta ∷ [])) ∷ [])

abbrev pub superseded_conflict_report : Report
superseded_conflict_report = refuses (conflicts s (text_version alpha) 17 (text_version beta) 16 ∷ []) 23
