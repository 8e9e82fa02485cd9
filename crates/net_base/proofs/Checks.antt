-- A view is made of bytes that are checked, and an error leaves them as they are:
--     pub fn new_checked(buffer: &'a mut [u8]) -> Result<View<'a>, Error> { let checked = check(buffer); if checked.ok { Ok(View { buffer: checked.bytes }) } else { Err(Error) } }
-- Here is the walk of each such function. Assumes `Logic`.
use mathlib.Core.Path.{◌≡◌, refl, sym, ap, subst, ◌∙◌}
use mathlib.Core.Bool.{Bool, not}
use mathlib.Core.List.{List, [], ◌∷◌}
use Prim.Native.Nat.{ℕ}
use lib.Dec.{T, lit<}
use lib.ListN.{length}
use seplogic.Ra.Ura.{Ura}
use mir.Syntax.{Sym, Fn, Callee, Local, Body, Lifetime, named, erased, mut, ty_struct, ty_ref, ty_int, ty_bool, tnil, w8, local, value_local, place, deref, field, assign, rv_opd, copy, int, addr_of, aggregate, call, cond, seq, return}
use mir.Val.{Val, vstruct, vcons, vnil}
use base.Logic.{SProp, ent, sep, emp, id⊢, wand}
use base.Stored.{coded_list}
use base.Fml.{Fml, Lft, GName, Share, ftrue, flft, fobs, fauth, fres, fex, fsep, feq}
use prog.Wp.{Closed}
use prog.Model.{Model}
use types.Logic.{Logic, sem}
use types.Match.{live}
use contract.Monad.{fact}
use contract.Running.{Running, tables}
use types.Kit.{Sq, prop, ‵, ◌⊛◌, raw, given, some, later, at_ret, each, assume, ◌$◌, ◌∵◌, !, qed, move, keep, drop, split, join, learn, fsplit, fsplit3, fjoin, fpack, feq_i, use0, use1, use2, await, pick, rewrite, suffices, frame, done}
use types.Part.{whole, sub, agg}
use types.Run.{stop, fld, hop, from, addr, lit, and_then, no_more, of_opd, first, branches, exec, returns, enter}
use types.ByLocal.{alloc_all, pass_all, free_all, look_at, look_in_at, get, get_in, sets, sets_last, lands_as, env}
use denote.Array.{Array}
use denote.Builtin.{u8, SliceRefMutOf}
use denote.Exit.{no}
use denote.Follow.{follows, follows_by, such_by}
use denote.FollowSlice.{heres_id}
use denote.Laws.{Is, shows}
use denote.Memory.{lone}
use denote.RattleType.{RattleType, owns}
use denote.Ref.{MutBor, NamedLft}
use denote.Signature.{plain, mut_slice_of, named_lft}
use denote.Slice.{MutSlice, slice_ty, Room, slice_val, mut_slice_vals, mut_slice_Tells}
use denote.Steps.{nothing, peeks, heard, only}
use denote.Struct.Declared.{Declared, shape, row as row_of}
use denote.Struct.Laws as LL
use denote.Struct.Record.{Done, declared}
use denote.Struct.Struct.{Struct}
use denote.Struct.Rest.{all_own, own_open, own_shut}
use denote.Triple.Call.{calls_at}
use denote.Triple.Clauses.{Ended, Clauses, Lasts, closing, lasts}
use denote.Triple.Entry.{on_entry}
use denote.Triple.Spec.{Meets, triple_of}
use denote.Triple.Table.{framed}
use denote.Triple.Walked.{Stays, stay_dropped, walk_of, ends_at, Goes-spent_slice}
use Rattle.std.specs.Prelude.{◌↔◌, ⊤, IsOk, IfOk, Ok, Err}
use Rattle.std.proofs.Flags.{T_true, never_true}
use Rattle.std.proofs.mem.Facts.{says_two}
use Rattle.std.proofs.result.Made.{Ok-of, Err-of}
use Rattle.std.specs.contracts.result.Result as RS
use Rattle.std.proofs.raw_atomic.Walks.{proved}
use Rattle.net_base.specs.declared.error.Error.{Error}
use Rattle.net_base.specs.contracts.error.Error as E
use Rattle.net_base.proofs.Views.{View, row, type, laws, seen}
use Rattle.net_base.specs.Borrow.{Checks, Holds, StaysIfErr}
use Rattle.net_base.specs.declared.checked.Checked.{Checked}
use Rattle.net_base.specs.contracts.checked.Checked as C
use Rattle.net_base.proofs.checked.Checked.TheLaws as C'

-- an error that says no more than that
pub record Rejection : Type 2 where
  pub name : Sym
  pub D : Type 0
  pub make : D
  pub eta : (d : D) → make ≡ d
  pub propositions : (v : Unit {0}) → IsProp Done

-- the one error of all readers
abbrev pub error : Rejection
error = record {
  name = E.struct.name;
  D = Error;
  make = record {};
  eta = λ error. refl;
  propositions = E.the_propositions;
}

abbrev rejection : Rejection → Declared
rejection E = declared (record {
  name = E.name;
  args = [];
  types = [];
  parts = [];
  D = E.D;
  as_values = λ d. tt;
  Ghost = λ v. Done;
  ghosts = λ d. tt;
  make = λ v g. E.make;
  eta = E.eta;
  beta = λ v g. refl;
}) E.propositions

module _ {M : Type 1} {𝓤 : Ura M} (𝓛 : Logic 𝓤) (R : RattleType) (γ : GName) where
  open 𝓛 use {A}

  follows_itself : ent 𝓤 (emp 𝓤) (sem 𝓛 (follows R R γ γ (λ w. w)))
  follows_itself =
      let From : R.Denot → R.Denot → Fml = λ z w. fsep (feq R.Denot z w) (fauth γ (R.coded.code w)) in
      let said = qed 𝓛 [] ∵ each ! (λ (w : R.Denot). wand 𝓤 (A.res γ (R.coded.code w)) (A.res γ (R.coded.code w))) (λ w. assume ! (‵ (fres γ (R.coded.code w))) $ done !) in
      let back = qed 𝓛 [] ∵ each ! (λ (z : R.Denot). wand 𝓤 (A.auth γ (R.coded.code z)) (sem 𝓛 (fex R.Denot (From z)))) (λ z. assume ! (‵ (fauth γ (R.coded.code z))) $
      feq_i ! R.Denot z z refl $ fjoin ! $ fpack ! R.Denot (From z) z $ done !) in
      record { apply = λ a p. (said.apply a p, back.apply a p) }

module _ (V : View) (E : Rejection) where
  abbrev result : NamedLft → RattleType
  result a = RS.the_row (row V a) (row_of (rejection E))

  module _ {M : Type 1} {𝓤 : Ura M} (𝓛 : Logic 𝓤) (x h : MutBor (List ℕ)) (same_borrow : h.ghost_name ≡ x.ghost_name) (same_bytes : h.now ≡ x.now) where
    open 𝓛 use {A}

    abbrev All : RattleType
    All = Array u8 0

    -- the slice is given up, and its borrow ends with the bytes that it has
    unchanged : (e : E.D) (ℓ : Lifetime) (κ : Lft) (vs : List Val) → ent 𝓤 (sem 𝓛 ((MutSlice ℓ κ u8).own_val h vs)) (sem 𝓛 (StaysIfErr x V.buffer (Err e)))
    unfolding such_by follows_by
    unchanged e ℓ κ vs = qed 𝓛 (‵ ((MutSlice ℓ κ u8).own_val h vs) ∷ []) ∵ fsplit3 ! $ drop ! $
        rewrite ! 0 (λ (l : List ℕ). ‵ (fobs h.ghost_name ((coded_list u8.coded).code l))) (heres_id u8 h.now ∙ same_bytes) refl $
        rewrite ! 0 (λ (γ : GName). ‵ (fobs γ (All.coded.code x.now))) same_borrow refl $
        use1 𝓛 (‵ (fres x.ghost_name (All.coded.code x.now))) (𝓛.names.obs-res x.ghost_name (All.coded.code x.now)) $ keep ! (0 ∷ []) $
        fpack ! ((s : (List ℕ → List ℕ) × List ℕ) × ((w : List ℕ) → ⊤) × s.1 ≡ x.now) (λ s. fres x.ghost_name (All.coded.code s.0.1)) (((λ w. w), x.now), (λ w. tt), refl) $ done !

    -- the view holds the slice, and its borrow ends with what is last left there
    held : (d : V.D) → V.buffer d ≡ h → ent 𝓤 (emp 𝓤) (sem 𝓛 (StaysIfErr {E = E.D} x V.buffer (Ok d)))
    unfolding such_by follows_by
    held d is =
        let kept : (V.buffer d).ghost_name ≡ x.ghost_name = ap (λ (k : MutBor (List ℕ)). k.ghost_name) is ∙ same_borrow in
        qed 𝓛 [] ∵ use0 𝓛 (‵ (follows All All x.ghost_name x.ghost_name (λ w. w))) (follows_itself 𝓛 All x.ghost_name) $
        rewrite ! 0 (λ (γ : GName). ‵ (follows All All x.ghost_name γ (λ w. w))) (sym kept) refl $
        fpack ! ((s : (List ℕ → List ℕ) × List ℕ) × ((w : List ℕ) → s.0 w ≡ w) × ⊤) (λ s. follows All All x.ghost_name (V.buffer d).ghost_name s.0.0) (((λ w. w), x.now), (λ w. refl), tt) $ done !

-- the contract of a function that checks
abbrev check_ended : Ended
check_ended = record {
  signature = record { lifetimes = 1; outlives = []; params = SliceRefMutOf (0 ∷ []) tt (plain (λ κs. u8)) (λ κs. tt) ∷ []; result = plain (λ κs. C.the_row (named_lft 1 0 tt κs)) };
  kept = (no, tt);
}

abbrev checks : {M : Type 1} {𝓤 : Ura M} (𝓛 : Logic 𝓤) → (List ℕ → Type 0) → Clauses 𝓤 check_ended
checks {𝓤 = 𝓤} 𝓛 φ κs a = record { ghost = Unit {0}; requires = λ _. emp 𝓤; ensures = λ _ r _. fact 𝓤 (Checks a.0 (φ a.0.now) r) }

module _ (V : View) (E : Rejection) (φ : List ℕ → Type 0) where
  -- the contract of the function
  abbrev ended : Ended
  ended = record {
    signature = record { lifetimes = 1; outlives = []; params = SliceRefMutOf (0 ∷ []) tt (plain (λ κs. u8)) (λ κs. tt) ∷ []; result = plain (λ κs. result V E (named_lft 1 0 tt κs)) };
    kept = (no, tt);
  }

  abbrev makes : {M : Type 1} {𝓤 : Ura M} (𝓛 : Logic 𝓤) → Clauses 𝓤 ended
  makes {𝓤 = 𝓤} 𝓛 κs a = record {
    ghost = Unit {0};
    requires = λ _. emp 𝓤;
    ensures = λ _ r _. sep 𝓤 (sem 𝓛 (StaysIfErr a.0 V.buffer r)) (sep 𝓤 (fact 𝓤 (IsOk r ↔ φ a.0.now)) (fact 𝓤 (IfOk r (λ v. Holds a.0 (V.buffer v) a.0.now))));
  }

  -- its code
  abbrev slice : Lifetime → Local
  slice ℓ = local (slice_ty (ty_ref ℓ mut (ty_int w8))) value_local

  abbrev answer : Lifetime → Local
  answer ℓ = local (lone (result V E (record { mir = ℓ; lft = [] })).mir) value_local

  abbrev then_6 : Body
  then_6 = seq (assign (place 0 []) (rv_opd (copy (place 6 [])))) return

  module _ (check : Callee) where
    abbrev code : Fn
    code = record {
      lifetimes = 1;
      outlives = [];
      ty_params = [];
      givens = 0;
      params = 1;
      locals = answer (named 0) ∷ slice (named 0) ∷ local (C'.mir erased) value_local ∷ local (ty_ref erased mut (ty_int w8)) value_local ∷ slice erased ∷ local ty_bool value_local
          ∷ answer erased ∷ local (ty_ref erased mut (ty_int w8)) value_local ∷ slice erased ∷ local (seen V) value_local ∷ local (ty_struct E.name tnil) value_local ∷ [];
      body = seq (assign (place 3 []) (addr_of (place 1 (field 0 ∷ deref (ty_int w8) ∷ []))))
          (seq (assign (place 4 []) (aggregate (copy (place 3 []) ∷ copy (place 1 (field 1 ∷ [])) ∷ [])))
          (seq (call check (copy (place 4 []) ∷ []) (place 2 []))
          (seq (assign (place 5 []) (rv_opd (copy (place 2 (field 1 ∷ [])))))
          (seq (cond (copy (place 5 []))
          (seq (assign (place 7 []) (addr_of (place 2 (field 0 ∷ field 0 ∷ deref (ty_int w8) ∷ []))))
          (seq (assign (place 8 []) (aggregate (copy (place 7 []) ∷ copy (place 2 (field 0 ∷ field 1 ∷ [])) ∷ [])))
          (seq (assign (place 9 []) (aggregate (copy (place 8 []) ∷ []))) (assign (place 6 []) (aggregate (int w8 0 ∷ copy (place 9 []) ∷ []))))))
          (seq (assign (place 10 []) (aggregate [])) (assign (place 6 []) (aggregate (int w8 1 ∷ copy (place 10 []) ∷ [])))))
          then_6))));
    }

  abbrev stayed : Stays ended.signature.params ended.kept
  stayed = (stay_dropped (mut_slice_of (0 ∷ []) tt (plain (λ κs. u8))) no, tt)

  module _ {M : Type 1} {𝓤 : Ura M} (𝓛 : Logic 𝓤) (𝓜 : Model 𝓤 𝓛.H) (𝓡 : Running 𝓤 𝓛.H 𝓜) (check : Callee) (checked : Meets 𝓛 check_ended.signature (𝓡.run (𝓡.env check)) (closing 𝓛 check_ended (checks 𝓛 φ)))
      (name : Callee) (closed : Closed 𝓤 𝓛.H (tables 𝓤 𝓛.H 𝓜 𝓡 𝓡.env).C (tables 𝓤 𝓛.H 𝓜 𝓡 𝓡.env).Λ name (code check)) where
    pub makes_checked : Meets 𝓛 ended.signature (𝓡.run (𝓡.env name)) (closing 𝓛 ended (makes 𝓛))
    makes_checked =
        let c = makes 𝓛 in let W = walk_of 𝓛 ended stayed c in let 𝓣 = tables 𝓤 𝓛.H 𝓜 𝓡 𝓡.env in
        proved 𝓛 ended stayed c 𝓜 𝓡 (Goes-spent_slice 𝓛 1 (0 ∷ []) tt (plain (λ κs. u8)), tt)
        name (code check) closed
        (λ κs. (mut_slice_vals, tt)) (λ κs. (mut_slice_Tells (named 0) κs.0 u8, tt))
        (λ κs qs bounds a n are.
        let κ : Lft = κs.0 in let q : Share = qs.0 in let life : NamedLft = named_lft 1 0 tt κs in let x : MutBor (List ℕ) = a.0 in
        let y : W.Ghost = ((κs, qs, bounds, a, (mut_slice_vals x, tt)), n) in
        let rm : Room u8 (length x.now) = are.0.0.1 in
        let out : (r : (result V E life).Denot) (w : Val) → (IsOk r ↔ φ x.now) × IfOk r (λ d. Holds x (V.buffer d) x.now)
        → Sq 𝓛 (‵ ((result V E life).own_val r (w ∷ [])) ∷ ‵ (StaysIfErr x V.buffer r) ∷ ‵ (flft κ q) ∷ ‵ ftrue ∷ []) (prop (W.post y w)) = λ r w so.
        suffices ! _ (ends_at 𝓛 ended stayed c y w r (tt, tt) (tt, tt)) $
        nothing ! $ nothing ! $ fjoin ! $ join ! $ move ! (2 ∷ 3 ∷ []) $ join ! $ join ! $ frame ! $ says_two ! so $ done ! in
        qed 𝓛 (raw (on_entry 𝓛 ended.signature κs qs a y.0.4) ∷ raw (emp 𝓤) ∷ []) ∵ move ! (1 ∷ []) $ drop ! $
        use1 𝓛 ((‵ (flft κ q) ⊛ ‵ ftrue) ⊛ ‵ (owns (MutSlice (named 0) κ u8 ∷ []) a y.0.4)) (id⊢ 𝓤 _) $
        split ! $ split ! $ move ! (2 ∷ []) $ fsplit ! $ move ! (1 ∷ []) $ drop ! $
        -- [the slice; the token; true]
        enter ! _ _ _ _ _ $ alloc_all ! (λ l. pass_all ! refl ((tt, (tt, (record { fits = rm.0 }, tt))), tt) $
        let En = env (code check).locals l in
        sets ! (addr ! (from ! (fld ! refl (hop ! (look_in_at ! 1 (sub ! 0 refl (whole !))) (stop !))))) refl (tt, tt) $
        sets ! (agg ! (and_then ! (get ! refl) (and_then ! (get_in ! (fld ! refl (stop !)) (sub ! 1 refl (whole !))) (no_more !)))) refl (tt, (tt, (record { fits = rm.0 }, tt))) $
        let G = triple_of 𝓛 check_ended.signature (closing 𝓛 check_ended (checks 𝓛 φ)) in
        let z : G.Ghost = (((κ, tt), (q, tt), tt, (x, tt), (mut_slice_vals x, tt)), tt) in
        nothing ! $ move ! (1 ∷ 0 ∷ []) $ join ! $ nothing ! $ move ! (2 ∷ 0 ∷ []) $ join ! $ join ! $ nothing ! $ move ! (1 ∷ 0 ∷ []) $ use2 𝓛 (raw (G.pre z)) (id⊢ 𝓤 _) $
        calls_at ! (framed 𝓤 𝓛.H 𝓜 𝓣) G checked z (and_then ! (get ! refl) (no_more !)) (λ v.
        use1 𝓛 (later (some (λ (t : Checked). ((‵ (flft κ q) ⊛ ‵ ftrue) ⊛ ‵ ((C.the_row (named_lft 1 0 tt (κ, tt))).own_val t (v ∷ []))) ⊛
        some (λ (ws : Lasts check_ended (κ, tt) z.0.3). ‵ (lasts check_ended (κ, tt) z.0.3 ws) ⊛ raw (fact 𝓤 (Checks x (φ x.now) t)))))) (id⊢ 𝓤 _) $
        await ! tt $ pick ! (λ t. split ! $ split ! $ split ! $ move ! (3 ∷ []) $ pick ! (λ ws. split ! $ drop ! $ heard ! _ (λ is.
        -- [the token; true; what was checked; true]
        let R : RattleType = C.the_row (named_lft 1 0 tt (κ, tt)) in let us : List Val = C'.lowered t ∷ [] in
        move ! (2 ∷ []) $ peeks ! R (Is R) (shows 𝓛 R) t (v ∷ []) (λ at.
        let same : v ∷ [] ≡ us = (C'.lowers (named_lft 1 0 tt (κ, tt))).val_is t (v ∷ []) at in
        let known = LL.owed (C.the_type (named_lft 1 0 tt (κ, tt))) (C'.the_laws (named_lft 1 0 tt (κ, tt))) t (v ∷ []) at in
        rewrite ! 0 (λ (us : List Val). ‵ (R.own_val t us)) same refl $
        lands_as ! (ap only same) refl (tt, ((tt, (record { fits = known.0.0.1.0 }, tt)), (tt, tt))) $
        sets ! (of_opd ! (get_in ! (fld ! refl (stop !)) (sub ! 1 refl (whole !)))) refl (tt, tt) $
        use1 𝓛 (given (us ≡ us) (‵ (all_own (C.the_type life).parts (C'.the_laws life) (t.bytes, (t.ok, tt))))) (own_open 𝓛 (C.the_type life) (C'.the_laws life) (t.bytes, (t.ok, tt)) (C'.lowered t)) $ learn ! (λ _. fsplit ! $ move ! (1 ∷ []) $ drop ! $
        -- [the slice; the token; true; true]
        let h : MutBor (List ℕ) = t.bytes in let fit : Room u8 (length h.now) = known.0.0.1 in
        let Post : Val → SProp 𝓤 = W.post y in
        first ! $ branches ! (get ! refl)
        (λ yes.
        sets ! (addr ! (from ! (fld ! refl (fld ! refl (hop ! (look_in_at ! 2 (sub ! 0 refl (sub ! 0 refl (whole !)))) (stop !)))))) refl (tt, tt) $
        sets ! (agg ! (and_then ! (get ! refl) (and_then ! (get_in ! (fld ! refl (fld ! refl (stop !))) (sub ! 1 refl (sub ! 0 refl (whole !)))) (no_more !)))) refl (tt, (tt, (record { fits = fit.0 }, tt))) $
        sets ! (agg ! (and_then ! (get ! refl) (no_more !))) refl (tt, ((tt, (record { fits = fit.0 }, tt)), tt)) $
        sets_last ! (agg ! (and_then ! (lit ! tt) (and_then ! (get ! refl) (no_more !)))) refl (tt, (record { fits = lit< tt }, (((tt, (record { fits = fit.0 }, tt)), tt), tt))) $
        exec ! 𝓣.C 𝓣.Λ En then_6 (at_ret En Post) $
        sets ! (of_opd ! (get ! refl)) refl (tt, (record { fits = lit< tt }, (((tt, (record { fits = fit.0 }, tt)), tt), tt))) $
        let u : Val = vstruct (vcons (slice_val h.ref_ptr (length h.now)) vnil) in let d : V.D = V.make h in let B : RattleType = Struct (shape (type V life)) in
        nothing ! $ move ! (1 ∷ 0 ∷ []) $ fjoin ! $ use1 𝓛 (‵ (B.own_val (h, tt) (u ∷ []))) (own_shut 𝓛 (type V life) (laws V life) (h, tt)) $
        rewrite ! 0 (λ (k : MutBor (List ℕ)). ‵ (B.own_val (k, tt) (u ∷ []))) (sym (V.beta h)) refl $
        use1 𝓛 (‵ ((result V E life).own_val (Ok d) (live 0 (vcons u vnil) ∷ []))) (Ok-of 𝓛 (row V life) (row_of (rejection E)) d u) $
        use0 𝓛 (‵ (StaysIfErr {E = E.D} x V.buffer (Ok d))) (held V E 𝓛 x h is.same_borrow is.same_bytes d (V.beta h)) $
        returns ! (look_at ! 0 refl) $ free_all ! refl $ keep ! (1 ∷ 0 ∷ 2 ∷ 3 ∷ []) $
        out (Ok d) (live 0 (vcons u vnil)) (
          ((λ _. is.ok.0 (T_true t.ok yes)), λ _. refl),
          record {
            same_borrow = ap (λ (k : MutBor (List ℕ)). k.ghost_name) (V.beta h) ∙ is.same_borrow;
            same_length = ap (λ (k : MutBor (List ℕ)). length k.now) (V.beta h) ∙ ap length is.same_bytes;
            holds = ap (λ (k : MutBor (List ℕ)). k.now) (V.beta h) ∙ is.same_bytes;
          },
        ))
        (λ no.
        sets ! (agg ! (no_more !)) refl (tt, tt) $
        sets_last ! (agg ! (and_then ! (lit ! tt) (and_then ! (get ! refl) (no_more !)))) refl (tt, (record { fits = lit< tt }, (tt, tt))) $
        exec ! 𝓣.C 𝓣.Λ En then_6 (at_ret En Post) $
        sets ! (of_opd ! (get ! refl)) refl (tt, (record { fits = lit< tt }, (tt, tt))) $
        use1 𝓛 (‵ (StaysIfErr {V = V.D} x V.buffer (Err E.make))) (unchanged V E 𝓛 x h is.same_borrow is.same_bytes E.make (named 0) κ (mut_slice_vals h)) $
        nothing ! $ use1 𝓛 (‵ ((row_of (rejection E)).own_val E.make (vstruct vnil ∷ []))) (own_shut 𝓛 (rejection E) tt tt) $
        use1 𝓛 (‵ ((result V E life).own_val (Err E.make) (live 1 (vcons (vstruct vnil) vnil) ∷ []))) (Err-of 𝓛 (row V life) (row_of (rejection E)) E.make (vstruct vnil)) $
        returns ! (look_at ! 0 refl) $ free_all ! refl $ keep ! (0 ∷ 1 ∷ 2 ∷ 3 ∷ []) $
        out (Err E.make) (live 1 (vcons (vstruct vnil) vnil)) ((never_true, λ holds. absurd (subst (λ (b : Bool). T (not b)) (is.ok.1 holds) no)), tt))))))))))
