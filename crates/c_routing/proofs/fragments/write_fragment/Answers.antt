use Rattle.std.proofs.Common.{◌≡◌, List, None, drop, ℕ, of_z, refl, rules, subst, sym, to_z, w64}
use Rattle.c_routing.proofs.Fragmenting.{begins, cut, ended, has-lengths, wrote}
use Rattle.c_routing.specs.Fragmented.{MayBeWritten, WritesFragment, fragment_failure, fragment_frame, ident_of}
use Rattle.c_routing.proofs.fragments.write_fragment.Goals as goal

pub place_of-requires-clause-header : goal.place_of-requires-clause-header
place_of-requires-clause-header c =
    let none : fragment_failure c.args.ident c.args.mtu c.within-frame.result.now ≡ None = search rules in
    (cut c.args.ident c.args.mtu c.within-frame.result.now none).whole

pub place_of-requires-clause-lengths : goal.place_of-requires-clause-lengths
place_of-requires-clause-lengths c =
    let none : fragment_failure c.args.ident c.args.mtu c.within-frame.result.now ≡ None = search rules in
    has-lengths (ident_of c.args.ident) c.args.mtu (drop 14 c.within-frame.result.now) (cut c.args.ident c.args.mtu c.within-frame.result.now none).may

pub write_at-requires-clause-header : goal.write_at-requires-clause-header
write_at-requires-clause-header c =
    let none : fragment_failure c.args.ident c.args.mtu c.within-frame.result.now ≡ None = search rules in
    (cut c.args.ident c.args.mtu c.within-frame.result.now none).whole

pub write_at-requires-clause-may : goal.write_at-requires-clause-may
write_at-requires-clause-may c =
    let frame = c.within-frame.result.now in
    let none : fragment_failure c.args.ident c.args.mtu c.within-frame.result.now ≡ None = search rules in
    let ident : c.ident_of.result ≡ ident_of c.args.ident = search rules in
    subst (λ i. MayBeWritten i c.args.mtu (drop 14 frame) c.in-Some-place_of.at) (sym ident)
    (begins (ident_of c.args.ident) c.args.mtu c.args.number c.in-Some-place_of.at (drop 14 frame) (cut c.args.ident c.args.mtu frame none).may (search rules))

pub returns-in-Some-place_of : goal.returns-in-Some-place_of
returns-in-Some-place_of c =
    let frame = c.within-frame.result.now in
    let none : fragment_failure c.args.ident c.args.mtu c.within-frame.result.now ≡ None = search rules in
    subst (λ (f : List ℕ). WritesFragment (fragment_failure c.args.ident c.args.mtu f) (fragment_frame (ident_of c.args.ident) c.args.mtu c.args.number f) c.args.out.now c.write_at.new.out (to_z w64 (of_z w64 c.write_at.result)))
    c.within-frame.ensures.value
    (wrote _ c.ident_of.result (ident_of c.args.ident) c.args.mtu c.args.number c.in-Some-place_of.at frame c.args.out.now c.write_at.new.out c.write_at.result (to_z w64 (of_z w64 c.write_at.result)) none
    (search rules) (search rules) (search rules) c.write_at.ensures)

pub returns-in-None : goal.returns-in-None
returns-in-None c =
    let frame = c.within-frame.result.now in
    let none : fragment_failure c.args.ident c.args.mtu c.within-frame.result.now ≡ None = search rules in
    subst (λ (f : List ℕ). WritesFragment (fragment_failure c.args.ident c.args.mtu f) (fragment_frame (ident_of c.args.ident) c.args.mtu c.args.number f) c.args.out.now c.args.out.now _)
    c.within-frame.ensures.value (ended _ (ident_of c.args.ident) c.args.mtu c.args.number frame c.args.out.now c.args.out.now _ none (search rules) refl refl)
