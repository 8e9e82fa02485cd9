-- `emit` borrows the bytes after the option. Assumes `Logic`.
use mathlib.Core.Path.{◌≡◌, refl, sym, ap, ◌∙◌}
use Prim.Native.Nat.{ℕ, ◌+◌, ◌-◌, ◌≤◌}
use native.Mathlib.Omega.{arith}
use mathlib.Core.List.{List, [], ◌∷◌, ◌++◌}
use lib.ListN.{length, take, drop as drop_list, length-append}
use mir.Syntax.{named}
use mir.Val.{Val}
use base.Logic.{emp, id⊢}
use base.Fml.{Lft, GName, Share, ftrue, flft}
use contract.Lifetimes.{Lfts}
use contract.Monad.{fact, fact_i}
use contract.Running.{tables}
use types.Kit.{‵, ◌⊛◌, raw, some, later, ◌$◌, ◌∵◌, !, qed, move, keep, drop, split, join, group, fsplit, fjoin, use0, use1, use2, await, pick, rewrite, suffices, frame, done}
use types.Part.{whole, sub, agg}
use types.Run.{stop, fld, hop, from, addr, and_then, no_more, returns, enter}
use types.ByLocal.{alloc_all, pass_all, free_all, look_at, look_in_at, get, get_in, sets, lands_as}
use denote.Array.{Array}
use denote.Builtin.{u8, RefOf, SliceRefMutOf}
use denote.Exit.{yes, no}
use denote.Follow.{follows}
use denote.Laws.{Is, shows}
use denote.RattleType.{RattleType, owns}
use denote.Ref.{MutBor, ShrRef, shr_vals, shr_Tells}
use denote.Signature.{plain, named_lft}
use denote.Slice.{MutSlice, Room, slice_val, mut_slice_vals, mut_slice_Tells}
use denote.Steps.{peeks, nothing, heard, only}
use denote.Struct.Laws as LL
use denote.Triple.Call.{calls_at}
use denote.Triple.Clauses.{Lasts, lasts}
use denote.Triple.Entry.{on_entry}
use denote.Triple.Spec.{triple_of}
use denote.Triple.Table.{framed}
use denote.Triple.Walked.{says, Stays, stay_dropped, walk_of, ends_at, Goes-dropped, Goes-spent_slice}
use Rattle.std.specs.Prelude.{slice_range}
use Rattle.std.proofs.raw_atomic.Walks.{proved}
use Rattle.std.proofs.lemmas.List.{append-nil, drop_all, drop_at, take_all, take_at}
use Rattle.net_base.specs.Field.{with_range}
use Rattle.net_base.specs.declared.located.Located.{Located}
use Rattle.net_base.specs.contracts.located.Located as L
use Rattle.net_base.proofs.located.Located.TheLaws as L'
use Rattle.net_base.specs.contracts.located.Located.into_slice as into_slice
use Rattle.net_base.proofs.located.Located.into_slice.Met as into_slice_met
use Rattle.wire_tcp_options.specs.TcpOptionBorrow.{LocatesRest}
use Rattle.wire_tcp_options.specs.TcpOption.{IsEmittable, option_len, option_text, rest_after}
use Rattle.wire_tcp_options.specs.contracts.tcp.option.TcpOption as O
use Rattle.wire_tcp_options.specs.contracts.tcp.option.write_and_locate_rest as locate
use Rattle.wire_tcp_options.proofs.tcp.option.write_and_locate_rest.Met as locate_met
use Rattle.wire_tcp_options.specs.contracts.tcp.option.TcpOption.emit as f
use Rattle.wire_tcp_options.proofs.tcp.option.TcpOption.emit.Statement.{statement}
use Rattle.wire_tcp_options.proofs.tcp.option.TcpOption.emit.Code as code

abbrev stayed : Stays f.ended.signature.params f.ended.kept
stayed = (
  stay_dropped (RefOf (0 ∷ []) tt (plain (λ κs. O.the_row (named_lft 3 1 tt κs))) (λ κs. tt)) yes,
  (stay_dropped (SliceRefMutOf (2 ∷ []) tt (plain (λ κs. u8)) (λ κs. tt)) no, tt),
)

-- the rest after a front, and its bytes
left_after : (front following bytes : List ℕ) (i j : ℕ) (w : List ℕ) → bytes ≡ front ++ following → i ≡ length front → j ≡ length bytes → with_range bytes i j w ≡ front ++ w
left_after front following bytes i j w holds start end =
    let head : take i bytes ≡ front = ap (take i) holds ∙ take_at front following i (sym start) in
    let none : drop_list j bytes ≡ [] = drop_all j bytes (omega (arith, end)) in
    rw (head, none) (append-nil (front ++ w))

part_after : (front following bytes : List ℕ) (i j : ℕ) → bytes ≡ front ++ following → i ≡ length front → j ≡ length bytes → slice_range bytes i j ≡ following
part_after front following bytes i j holds start end =
    let long : length bytes ≡ length front + length following = ap length holds ∙ length-append front following in
    let tail : drop_list i bytes ≡ following = ap (drop_list i) holds ∙ drop_at front following i (sym start) in
    rw tail (take_all (j - i) following (omega (arith, long, start, end)))

pub emit_spec : {M : Type 1} → statement M
emit_spec 𝓤 𝓛 𝓜 𝓡 wired =
    let c = f.clauses 𝓛 𝓜.mem 𝓡.returns in let W = walk_of 𝓛 f.ended stayed c in let 𝓣 = tables 𝓤 𝓛.H 𝓜 𝓡 𝓡.env in
    proved 𝓛 f.ended stayed c 𝓜 𝓡
    (Goes-dropped 𝓛 3 (RefOf (0 ∷ []) tt (plain (λ κs. O.the_row (named_lft 3 1 tt κs))) (λ κs. tt)) yes (λ κs x w. refl), (Goes-spent_slice 𝓛 3 (2 ∷ []) tt (plain (λ κs. u8)), tt))
    f.Key.name code.function (code.unfolded 𝓤 𝓛.H 𝓜 𝓡 wired)
    (λ κs. (shr_vals, (mut_slice_vals, tt))) (λ κs. (shr_Tells (named 0) κs.0 (O.the_row (named_lft 3 1 tt κs)), (mut_slice_Tells (named 2) κs.1.1.0 u8, tt)))
    (λ κs qs bounds a n are.
    let κ₀ : Lft = κs.0 in let κ₁ : Lft = κs.1.0 in let κ₂ : Lft = κs.1.1.0 in let q₀ : Share = qs.0 in let q₁ : Share = qs.1.0 in let q₂ : Share = qs.1.1.0 in
    let S : RattleType = ShrRef (named 0) κ₀ (O.the_row (named_lft 3 1 tt κs)) in
    let buffer : MutBor (List ℕ) = a.1.0 in let front : List ℕ = option_text a.0.now in let following : List ℕ = rest_after a.0.now buffer.now in
    let rm : Room u8 (length buffer.now) = are.1.0.0.1 in
    let y : W.Ghost = ((κs, qs, bounds, a, (shr_vals a.0, (mut_slice_vals buffer, tt))), n) in
    qed 𝓛 (raw (on_entry 𝓛 f.signature κs qs a y.0.4) ∷ (raw (fact 𝓤 (option_len a.0.now ≤ length buffer.now)) ⊛ raw (fact 𝓤 (IsEmittable a.0.now))) ∷ []) ∵
    move ! (1 ∷ []) $ split ! $ heard ! _ (λ enough. heard ! _ (λ fits.
    use1 𝓛 ((‵ (flft κ₀ q₀) ⊛ (‵ (flft κ₁ q₁) ⊛ (‵ (flft κ₂ q₂) ⊛ ‵ ftrue))) ⊛ ‵ (owns (S ∷ MutSlice (named 2) κ₂ u8 ∷ []) a y.0.4)) (id⊢ 𝓤 _) $
    split ! $ split ! $ move ! (1 ∷ []) $ split ! $ move ! (1 ∷ []) $ split ! $ move ! (4 ∷ []) $ fsplit ! $ move ! (1 ∷ []) $ fsplit ! $
    move ! (1 ∷ []) $ drop ! $
    -- [the slice; the option; a token; true; the other tokens]
    enter ! _ _ _ _ _ $ alloc_all ! (λ l. pass_all ! refl ((tt, tt), ((tt, (tt, (record { fits = rm.0 }, tt))), tt)) $
    sets ! (addr ! (from ! (fld ! refl (hop ! (look_in_at ! 2 (sub ! 0 refl (whole !))) (stop !))))) refl (tt, tt) $
    sets ! (agg ! (and_then ! (get ! refl) (and_then ! (get_in ! (fld ! refl (stop !)) (sub ! 1 refl (whole !))) (no_more !)))) refl (tt, (tt, (record { fits = rm.0 }, tt))) $
    let κs' : Lfts 3 = (κ₂, (κ₀, (κ₁, tt))) in
    let G = triple_of 𝓛 locate.signature (locate.spec 𝓛 𝓜.mem 𝓡.returns) in
    let z : G.Ghost = ((κs', (q₂, (q₀, (q₁, tt))), (bounds.0, tt), (buffer, (a.0, tt)), (mut_slice_vals buffer, (shr_vals a.0, tt))), tt) in
    nothing ! $ move ! (1 ∷ 2 ∷ 0 ∷ []) $ group ! 3 $ move ! (1 ∷ 4 ∷ 3 ∷ 2 ∷ 0 ∷ []) $ group ! 4 $ join ! $
    use0 𝓛 (raw (fact 𝓤 (IsEmittable a.0.now))) (fact_i 𝓤 (IsEmittable a.0.now) (emp 𝓤) fits) $
    use0 𝓛 (raw (fact 𝓤 (option_len a.0.now ≤ length buffer.now))) (fact_i 𝓤 (option_len a.0.now ≤ length buffer.now) (emp 𝓤) enough) $
    join ! $ move ! (1 ∷ 0 ∷ []) $ use2 𝓛 (raw (G.pre z)) (id⊢ 𝓤 _) $
    calls_at ! (framed 𝓤 𝓛.H 𝓜 𝓣) G (locate_met.met 𝓤 𝓛 𝓜 𝓡 (code.calls-wire_tcp_options::tcp::option::write_and_locate_rest 𝓡.env wired)) z (and_then ! (get ! refl) (and_then ! (get ! refl) (no_more !))) (λ v.
    use1 𝓛 (later (some (λ (t : Located). ((‵ (flft κ₂ q₂) ⊛ (‵ (flft κ₀ q₀) ⊛ (‵ (flft κ₁ q₁) ⊛ ‵ ftrue))) ⊛ ‵ ((L.the_row (named_lft 3 0 tt κs')).own_val t (v ∷ []))) ⊛
    some (λ (ws : Lasts locate.ended κs' z.0.3). ‵ (lasts locate.ended κs' z.0.3 ws) ⊛ raw (fact 𝓤 (LocatesRest buffer front following t)))))) (id⊢ 𝓤 _) $
    await ! tt $ pick ! (λ t. split ! $ split ! $ split ! $ move ! (1 ∷ []) $ split ! $ move ! (1 ∷ []) $ split ! $
    move ! (5 ∷ []) $ pick ! (λ ws. split ! $ drop ! $ heard ! _ (λ is.
    -- [a token; true; two tokens; the located part]
    let R : RattleType = L.the_row (named_lft 3 0 tt κs') in let us : List Val = L'.lowered t ∷ [] in
    move ! (4 ∷ []) $ peeks ! R (Is R) (shows 𝓛 R) t (v ∷ []) (λ at.
    let same : v ∷ [] ≡ L'.lowered t ∷ [] = (L'.lowers (named_lft 3 0 tt κs')).val_is t (v ∷ []) at in
    let known = LL.owed (L.the_type (named_lft 3 0 tt κs')) (L'.the_laws (named_lft 3 0 tt κs')) t (v ∷ []) at in
    rewrite ! 0 (λ (us : List Val). ‵ (R.own_val t us)) same refl $
    lands_as ! (ap only same) refl ((tt, ((tt, (record { fits = known.0.0.1.0 }, tt)), (record { fits = known.1.0.1 }, (record { fits = known.1.1.0.1 }, tt))))) $
    let G' = triple_of 𝓛 into_slice.signature (into_slice.spec 𝓛 𝓜.mem 𝓡.returns) in
    let z' : G'.Ghost = (((κ₂, tt), (q₂, tt), tt, (t, tt), (us, tt)), tt) in
    let long : length t.bytes.now ≡ length front + length following = ap length is.holds ∙ length-append front following in
    let lo : t.start ≤ t.end = omega (arith, is.start, is.end, long) in
    let hi : t.end ≤ length t.bytes.now = omega (arith, is.end) in
    nothing ! $ move ! (1 ∷ 0 ∷ []) $ join ! $ move ! (4 ∷ 2 ∷ 0 ∷ []) $ join ! $ join ! $
    use0 𝓛 (raw (fact 𝓤 (t.end ≤ length t.bytes.now))) (fact_i 𝓤 (t.end ≤ length t.bytes.now) (emp 𝓤) hi) $
    use0 𝓛 (raw (fact 𝓤 (t.start ≤ t.end))) (fact_i 𝓤 (t.start ≤ t.end) (emp 𝓤) lo) $ join ! $ move ! (1 ∷ 0 ∷ []) $ use2 𝓛 (raw (G'.pre z')) (id⊢ 𝓤 _) $
    calls_at ! (framed 𝓤 𝓛.H 𝓜 𝓣) G' (into_slice_met.met 𝓤 𝓛 𝓜 𝓡 (code.calls-net_base::located::Located::into_slice 𝓡.env wired)) z' (and_then ! (get ! refl) (no_more !)) (λ v'.
    use1 𝓛 (later (some (λ (r : MutBor (List ℕ)). ((‵ (flft κ₂ q₂) ⊛ ‵ ftrue) ⊛ ‵ ((MutSlice (named 0) κ₂ u8).own_val r (v' ∷ []))) ⊛
    some (λ (ws' : Lasts into_slice.ended (κ₂, tt) z'.0.3). ‵ (lasts into_slice.ended (κ₂, tt) z'.0.3 ws') ⊛
    (‵ (follows (Array u8 0) (Array u8 0) t.bytes.ghost_name r.ghost_name (with_range t.bytes.now t.start t.end)) ⊛ raw (fact 𝓤 (r.now ≡ slice_range t.bytes.now t.start t.end))))))) (id⊢ 𝓤 _) $
    await ! tt $ pick ! (λ r. split ! $ split ! $ split ! $ move ! (3 ∷ []) $ pick ! (λ ws'. split ! $ drop ! $ split ! $ move ! (1 ∷ []) $ heard ! _ (λ part.
    -- [the slice follows the rest; a token; true; the rest; two tokens]
    rewrite ! 0 (λ (γ : GName). ‵ (follows (Array u8 0) (Array u8 0) γ r.ghost_name (with_range t.bytes.now t.start t.end))) is.same_borrow refl $
    rewrite ! 0 (λ (F : List ℕ → List ℕ). ‵ (follows (Array u8 0) (Array u8 0) buffer.ghost_name r.ghost_name F)) (λ k w. left_after front following t.bytes.now t.start t.end w is.holds is.start is.end k) refl $
    move ! (3 ∷ []) $ peeks ! (MutSlice (named 0) κ₂ u8) (Is (MutSlice (named 0) κ₂ u8)) (shows 𝓛 (MutSlice (named 0) κ₂ u8)) r (v' ∷ []) (λ at'.
    rewrite ! 0 (λ (us : List Val). ‵ ((MutSlice (named 0) κ₂ u8).own_val r us)) at'.0.0 refl $
    lands_as ! (ap only at'.0.0) refl (tt, (tt, (record { fits = at'.0.1.0 }, tt))) $
    returns ! (look_at ! 0 refl) $ free_all ! refl $ keep ! (0 ∷ 1 ∷ 2 ∷ 3 ∷ 4 ∷ 5 ∷ []) $
    suffices ! _ (ends_at 𝓛 f.ended stayed c y (slice_val r.ref_ptr (length r.now)) r (tt, (tt, tt)) (tt, (tt, tt))) $
    nothing ! $ nothing ! $ fjoin ! $ nothing ! $ fjoin ! $ join ! $ move ! (5 ∷ 4 ∷ 2 ∷ 3 ∷ []) $ group ! 4 $ join ! $ frame ! $
    says ! (part ∙ part_after front following t.bytes.now t.start t.end is.holds is.start is.end) $ done !))))))))))))))
