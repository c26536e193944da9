use Rattle.std.proofs.Common.{◌≡◌, ◌<◌, ◌≤◌, true, false, List, All, sym, subst}
use Rattle.rc_library.specs.Gathered.{Gathered}
use Rattle.rc_library.specs.declared.parts.NamedKind.{NamedKind}
use Rattle.rc_library.proofs.GatheredLemmas.{no_inverters-push}
use Rattle.rc_library.proofs.gathered.Gathered.push_kind.Goals as goal

pub invariant_of-self-2 : goal.invariant_of-self-2
invariant_of-self-2 c =
    let before = c.self.invariant in
    let third : c.args.kind.inverts ≡ true → 3 ≤ c.self.inside.version =
    subst (λ (g : Gathered). c.args.kind.inverts ≡ true → 3 ≤ g.version) (sym c.self.view_is) c.requires.version in
    record {
      least = before.least;
      greatest = before.greatest;
      wires = before.wires;
      via = before.via;
      driver = before.driver;
      sink = before.sink;
      kinds = c.in_ok-push.ensures.kinds;
      places = before.places;
      no_blocks = before.no_blocks;
      no_drivers = before.no_drivers;
      no_sinks = before.no_sinks;
      no_flips = before.no_flips;
      no_inverters =
          subst (λ (kinds : List NamedKind). c.self.inside.version < 3 → All (λ (kind : NamedKind). kind.inverts ≡ false) kinds)
          (sym c.in_ok-push.ensures.ok)
          (no_inverters-push c.self.inside.version c.self.inside.kinds c.args.kind third before.no_inverters);
    }
