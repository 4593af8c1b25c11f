use Rattle.std.proofs.Common.{rules, length, ◌≡◌, ◌<◌, ◌∙◌, sym, ap, subst, refl, ℕ, Option, None, Some}
use Rattle.std.specs.Prelude.{◌↔◌, option_map}
use Rattle.qccd_base.specs.Names.{trap}
use Rattle.qccd_base.specs.declared.names.TrapId.{TrapId}
use Rattle.router.specs.Wiring.{WiringData, IsWiring}
use Rattle.router.specs.Hops.{next_hop}
use Rattle.router.specs.declared.hops.Hop.{Hop}
use Rattle.router.proofs.Distances.{next_hop_none}
use Rattle.router.proofs.Reading.{hop_got, hops_long, hops_row_long}
use Rattle.router.proofs.routes.Routes.next_hop.Goals as goal

-- no next hop exactly where the two are one trap
none_where_equal : (w : WiringData) (a b : TrapId) (next : Option TrapId) → IsWiring w → a.0 < w.traps → b.0 < w.traps → next ≡ option_map trap (next_hop w a.0 b.0) → (next ≡ None) ↔ (a ≡ b)
none_where_equal w a b next wiring a_there b_there is = (
  (λ none. ap trap ((next_hop_none w a.0 b.0 wiring a_there b_there).0 (none_of (next_hop w a.0 b.0) (sym is ∙ none)))),
  (λ same. is ∙ ap (option_map trap) ((next_hop_none w a.0 b.0 wiring a_there b_there).1 (ap (λ (t : TrapId). t.0) same))),
)
  where
    none_of : (o : Option ℕ) → option_map trap o ≡ None → o ≡ None
    none_of None is = refl
    none_of (Some n) is = cc

pub index-requires : goal.index-requires
index-requires c =
    let within : c.from.result < length c.self.inside.hops.items = hops_long c.self.inside.wiring c.args.self.now c.args.to.0 c.from.result c.self.inside.hops.items c.self.view_is c.self.invariant.2 c.from.ensures c.requires.to in
    search rules

pub at-requires : goal.at-requires
at-requires c = hops_row_long c.self.inside.wiring c.args.self.now c.args.from.0 c.args.to.0 c.from.result c.self.inside.hops.items c.index.result.now c.self.view_is c.self.invariant.2 c.from.ensures c.requires.to c.requires.from c.index.ensures

pub returns-clause-hop : goal.returns-clause-hop
returns-clause-hop c =
    ap (λ (hop : Hop). hop.next)
    (hop_got c.self.inside.wiring c.args.self.now c.args.from.0 c.args.to.0 c.from.result c.self.inside.hops.items c.index.result.now c.at.result.now c.self.view_is c.self.invariant.2 c.from.ensures c.requires.to c.requires.from c.index.ensures c.at.ensures)

pub returns-clause-none : goal.returns-clause-none
returns-clause-none c =
    none_where_equal c.args.self.now c.args.from c.args.to c.at.result.now.next (subst IsWiring c.self.view_is c.self.invariant.0) c.requires.from c.requires.to
    (ap (λ (hop : Hop). hop.next)
    (hop_got c.self.inside.wiring c.args.self.now c.args.from.0 c.args.to.0 c.from.result c.self.inside.hops.items c.index.result.now c.at.result.now c.self.view_is c.self.invariant.2 c.from.ensures c.requires.to c.requires.from c.index.ensures c.at.ensures))
