-- A view holds a slice by a `&mut`, and a method of it borrows a part of that slice:
--     pub fn payload_mut(&mut self) -> &mut [u8] { locate_payload(self.buffer).into_slice() }
-- Here is the walk of each such method. Assumes `Logic`.
use mathlib.Core.Path.{◌≡◌, refl, sym, ap, ◌∙◌}
use Prim.Native.Nat.{ℕ, ◌+◌, ◌≤◌}
use native.Mathlib.Omega.{arith}
use mathlib.Core.List.{List, [], ◌∷◌, ◌++◌}
use lib.ListN.{length, take, drop as drop_list, length-drop}
use seplogic.Ra.Ura.{Ura}
use mir.Syntax.{Sym, Ty, Fn, Callee, Body, named, erased, mut, ty_struct, ty_named, ty_ref, ty_int, tcons, tnil, w8, w64, local, value_local, place, deref, field, assign, rv_opd, copy, addr_of, aggregate, call, seq, return}
use mir.Raw.{raw as raw_ty}
use mir.Val.{Val, vstruct, vcons, vnil}
use base.Fraction.{full_share}
use base.Logic.{SProp, ent, sep, emp, id⊢}
use base.Fml.{Lft, GName, Share, ftrue, fat, flft}
use prog.Wired.{Wired}
use prog.Wp.{Closed}
use prog.Model.{Model}
use types.Logic.{Logic, sem}
use contract.Monad.{fact, fact_i}
use contract.Running.{Running, tables}
use types.Kit.{‵, ◌⊛◌, raw, some, later, ◌$◌, ◌∵◌, !, qed, move, keep, drop, split, split3, join, fsplit, fsplit3, fjoin, use0, use1, use2, use3, await, pick, rewrite, suffices, frame, done}
use types.Part.{whole, sub, agg, look_in}
use types.Run.{stop, fld, hop, addr, load, and_then, no_more, of_opd, returns, enter}
use types.ByLocal.{alloc_all, pass_all, free_all, look_at, get, through, sets, lands_as}
use borrow.Table.OneValue.{retype}
use borrow.Follows.Field.{HandsTo, hands_on}
use borrow.Struct.Lend.{kept_record, record_fill, record_apart}
use denote.Array.{Array}
use denote.Builtin.{u8, SliceRefMutOf, RefMutOf}
use denote.Exit.{no}
use denote.Follow.{follows, follows_then}
use denote.Laws.{Is, shows}
use denote.Memory.{lone, cell_at}
use denote.RattleType.{RattleType, owns}
use denote.Ref.{MutBor, NamedLft, MutRef, mut_vals, mut_Tells}
use denote.Signature.{plain, mut_ref_to, named_lft}
use denote.Slice.{MutSlice, slice_ty, Room, slice_val, mut_slice_vals}
use denote.Steps.{opens, closes, peeks, nothing, heard, only}
use denote.Struct.Declared.{Declared, row as row_of}
use denote.Struct.Field.{mut_slice_field, row_field}
use denote.Struct.Laws as LL
use denote.Struct.Loose.{Looses, loosen}
use denote.Struct.Record.{Record, Done, declared}
use denote.Struct.Steps.{spelt}
use denote.Triple.Call.{calls_at}
use denote.Triple.Clauses.{Ended, Clauses, Lasts, closing, lasts}
use denote.Triple.Entry.{on_entry}
use denote.Triple.Spec.{Meets, triple_of}
use denote.Triple.Table.{framed}
use denote.Triple.Walked.{says, Stays, stay_dropped, walk_of, ends_at, Goes-spent_ref}
use Rattle.std.specs.Prelude.{slice_range}
use Rattle.std.proofs.raw_atomic.Walks.{proved}
use Rattle.std.proofs.Math.Seq.{drop-length, take-length}
use Rattle.std.proofs.lemmas.List.{append-nil}
use Rattle.net_base.proofs.Held.{held_borrowed, borrows_held}
use Rattle.net_base.specs.Field.{with_range}
use Rattle.net_base.specs.Borrow.{Locates}
use Rattle.net_base.specs.declared.located.Located.{Located}
use Rattle.net_base.specs.contracts.located.Located as L
use Rattle.net_base.proofs.located.Located.TheLaws as L'
use Rattle.net_base.specs.contracts.located.Located.into_slice as into_slice
use Rattle.net_base.proofs.located.Located.into_slice.Symbol as into_slice_symbol
use Rattle.net_base.proofs.located.Located.into_slice.Met.{met}

-- conditions, each a `requires` of its own
abbrev pub All : List (Type 0) → Type 0
All [] = Unit {0}
All (φ ∷ []) = φ
All (φ ∷ ψ ∷ φs) = φ × All (ψ ∷ φs)

abbrev facts : {M : Type 1} (𝓤 : Ura M) → List (Type 0) → SProp 𝓤
facts 𝓤 [] = emp 𝓤
facts 𝓤 (φ ∷ []) = fact 𝓤 φ
facts 𝓤 (φ ∷ ψ ∷ φs) = sep 𝓤 (fact 𝓤 φ) (facts 𝓤 (ψ ∷ φs))

module _ {M : Type 1} {𝓤 : Ura M} (𝓛 : Logic 𝓤) where
  facts_e : (φs : List (Type 0)) → ent 𝓤 (facts 𝓤 φs) (fact 𝓤 (All φs))
  facts_e [] = fact_i 𝓤 (Unit {0}) (emp 𝓤) tt
  facts_e (φ ∷ []) = id⊢ 𝓤 (fact 𝓤 φ)
  facts_e (φ ∷ ψ ∷ φs) = qed 𝓛 (raw (fact 𝓤 φ) ∷ raw (facts 𝓤 (ψ ∷ φs)) ∷ []) ∵ heard ! _ (λ p. use1 𝓛 (raw (fact 𝓤 (All (ψ ∷ φs)))) (facts_e (ψ ∷ φs)) $ heard ! _ (λ ps.
      use0 𝓛 (raw (fact 𝓤 (All (φ ∷ ψ ∷ φs)))) (fact_i 𝓤 (All (φ ∷ ψ ∷ φs)) (emp 𝓤) (p, ps)) $ done !))

  facts_i : (φs : List (Type 0)) → All φs → ent 𝓤 (emp 𝓤) (facts 𝓤 φs)
  facts_i [] ps = id⊢ 𝓤 (emp 𝓤)
  facts_i (φ ∷ []) p = fact_i 𝓤 φ (emp 𝓤) p
  facts_i (φ ∷ ψ ∷ φs) ps = qed 𝓛 [] ∵ use0 𝓛 (raw (facts 𝓤 (ψ ∷ φs))) (facts_i (ψ ∷ φs) ps.1) $ use0 𝓛 (raw (fact 𝓤 φ)) (fact_i 𝓤 φ (emp 𝓤) ps.0) $ done !

-- a struct that holds a slice by a `&mut`, in its one field
pub record View : Type 2 where
  pub name : Sym
  pub D : Type 0
  pub buffer : D → MutBor (List ℕ)
  pub make : MutBor (List ℕ) → D
  pub eta : (d : D) → make (buffer d) ≡ d
  pub beta : (h : MutBor (List ℕ)) → buffer (make h) ≡ h
  pub propositions : (v : MutBor (List ℕ) × Unit {0}) → IsProp Done

module _ (V : View) where
  abbrev struct : NamedLft → Record
  struct a = record {
    name = V.name;
    args = [];
    types = MutSlice a.mir a.lft u8 ∷ [];
    parts = row_field (MutSlice a.mir a.lft u8) ∷ [];
    D = V.D;
    as_values = λ d. (V.buffer d, tt);
    Ghost = λ v. Done;
    ghosts = λ d. tt;
    make = λ v g. V.make v.0;
    eta = V.eta;
    beta = λ v g. ap (λ (h : MutBor (List ℕ)). (h, tt)) (V.beta v.0);
  }

  abbrev pub type : NamedLft → Declared
  type a = declared (struct a) V.propositions

  abbrev pub row : NamedLft → RattleType
  row a = row_of (type a)

  abbrev pub laws : (a : NamedLft) → LL.Laws (type a)
  laws a = (LL.mut_slice_laws a u8 tt, tt)

  abbrev loose : (a : NamedLft) → Looses (type a).parts
  loose a = (loosen (mut_slice_field a u8 tt) (LL.mut_slice_laws a u8 tt), tt)

  -- the view hands on the slice that it holds
  hands : (a : NamedLft) {M : Type 1} {𝓤 : Ura M} (𝓛 : Logic 𝓤) (x : V.D) → HandsTo 𝓛 (row a) (MutSlice a.mir a.lft u8) (λ o. o + 0) x (V.buffer x) V.make
  hands a 𝓛 =
      let em : (v : MutBor (List ℕ) × Unit {0}) → Done → (V.buffer (V.make v.0), tt) ≡ (v.0, tt) = λ v g. ap (λ (h : MutBor (List ℕ)). (h, tt)) (V.beta v.0) in
      hands_on 𝓛 (row a) (MutSlice a.mir a.lft u8) 0 V.buffer (λ x h. V.make h)
      (kept_record (type a) (loose a) 0 0 (struct a).as_values (struct a).Ghost (struct a).make (λ v. tt) (λ x. refl) em (λ h. h))
      (record_fill (type a) (loose a) 0 0 (struct a).as_values (struct a).Ghost (struct a).make (λ v. tt) (λ x. refl) em (λ h. h) refl (λ h. refl))
      (record_apart (type a) (loose a) 0 0 (struct a).as_values (struct a).Ghost (struct a).make (λ v. tt) (λ x. refl) em (λ h. h) 𝓛 refl refl)

  -- the machine's value of a view
  abbrev stored_value : V.D → Val
  stored_value x = vstruct (vcons (slice_val (V.buffer x).ref_ptr (length (V.buffer x).now)) vnil)

  abbrev stored : V.D → List Val
  stored x = stored_value x ∷ []

  -- the type at which the body sees a view
  abbrev pub seen : Ty
  seen = ty_struct V.name (tcons (slice_ty (ty_ref erased mut (ty_int w8))) tnil)

-- Where a method's part is in the slice, under the method's conditions: from first up to last. The method's contract speaks of the part as `part`, and of
-- what the slice ends as, where w is last left in the part, as `left xs w`.
pub record Place : Type 1 where
  pub conditions : List ℕ → List (Type 0)
  pub first : List ℕ → ℕ
  pub last : List ℕ → ℕ
  pub order : (xs : List ℕ) → All (conditions xs) → first xs ≤ last xs
  pub in_bounds : (xs : List ℕ) → All (conditions xs) → last xs ≤ length xs
  pub part : List ℕ → List ℕ
  pub part_is : (xs : List ℕ) → slice_range xs (first xs) (last xs) ≡ part xs
  pub left : List ℕ → List ℕ → List ℕ
  pub left_is : (xs w : List ℕ) → with_range xs (first xs) (last xs) w ≡ left xs w

-- all that follows the first n bytes
abbrev pub from_byte : ℕ → Place
from_byte n = record {
  conditions = λ xs. (n ≤ length xs) ∷ [];
  first = λ xs. n;
  last = length;
  order = λ xs h. h;
  in_bounds = λ xs h. omega arith;
  part = drop_list n;
  part_is = λ xs. ap (λ (k : ℕ). take k (drop_list n xs)) (sym (length-drop n xs)) ∙ take-length (drop_list n xs);
  left = λ xs w. take n xs ++ w;
  left_is = λ xs w. ap (λ (l : List ℕ). take n xs ++ w ++ l) (drop-length xs) ∙ append-nil (take n xs ++ w);
}

-- the bytes from first up to last
abbrev pub between : (conditions : List ℕ → List (Type 0)) (first last : List ℕ → ℕ) → ((xs : List ℕ) → All (conditions xs) → first xs ≤ last xs) → ((xs : List ℕ) → All (conditions xs) → last xs ≤ length xs) → Place
between conditions first last order in_bounds = record {
  conditions = conditions;
  first = first;
  last = last;
  order = order;
  in_bounds = in_bounds;
  part = λ xs. slice_range xs (first xs) (last xs);
  part_is = λ xs. refl;
  left = λ xs. with_range xs (first xs) (last xs);
  left_is = λ xs w. refl;
}

-- the contract of a function that locates a part
abbrev locate_ended : Ended
locate_ended = record {
  signature = record { lifetimes = 1; outlives = []; params = SliceRefMutOf (0 ∷ []) tt (plain (λ κs. u8)) (λ κs. tt) ∷ []; result = plain (λ κs. L.the_row (named_lft 1 0 tt κs)) };
  kept = (no, tt);
}

abbrev locates : {M : Type 1} {𝓤 : Ura M} (𝓛 : Logic 𝓤) → Place → Clauses 𝓤 locate_ended
locates {𝓤 = 𝓤} 𝓛 P κs a = record { ghost = Unit {0}; requires = λ _. facts 𝓤 (P.conditions a.0.now); ensures = λ _ r _. fact 𝓤 (Locates a.0 (P.first a.0.now) (P.last a.0.now) r) }

module _ (V : View) (P : Place) where
  -- the contract of the method
  abbrev ended : Ended
  ended = record {
    signature = record {
      lifetimes = 2;
      outlives = record { long = 1; long_ok = tt; short = named 0; short_ok = tt } ∷ [];
      params = RefMutOf (0 ∷ []) tt (plain (λ κs. row V (named_lft 2 1 tt κs))) (λ κs. tt) ∷ [];
      result = SliceRefMutOf (0 ∷ []) tt (plain (λ κs. u8)) (λ κs. tt);
    };
    kept = (no, tt);
  }

  abbrev borrows : {M : Type 1} {𝓤 : Ura M} (𝓛 : Logic 𝓤) → Clauses 𝓤 ended
  borrows {𝓤 = 𝓤} 𝓛 κs a = record {
    ghost = Unit {0};
    requires = λ _. facts 𝓤 (P.conditions (V.buffer a.0.now).now);
    ensures = λ _ r _. sep 𝓤
        (sem 𝓛 (follows (row V (record { mir = named 1; lft = [] })) (Array u8 0) a.0.ghost_name r.ghost_name
        (λ w. V.make (record (V.buffer a.0.now) { now = P.left (V.buffer a.0.now).now w }))))
        (fact 𝓤 (r.now ≡ P.part (V.buffer a.0.now).now));
  }

  -- its code
  module _ (locate : Callee) where
    abbrev then_4 : Body
    then_4 = seq (call locate (copy (place 5 []) ∷ []) (place 2 [])) (seq (call into_slice_symbol.name (copy (place 2 []) ∷ []) (place 0 [])) return)

    abbrev code : Fn
    code = record {
      lifetimes = 2;
      outlives = (1, 0) ∷ [];
      ty_params = [];
      givens = 0;
      params = 1;
      locals = local (slice_ty (ty_ref (named 0) mut (ty_int w8))) value_local ∷ local (ty_ref (named 0) mut (ty_named (V.name, []) (tcons (slice_ty (ty_ref (named 1) mut (ty_int w8))) tnil))) value_local
          ∷ local (L'.mir erased) value_local ∷ local (ty_int w64) value_local ∷ local (ty_ref erased mut (ty_int w8)) value_local ∷ local (slice_ty (ty_ref erased mut (ty_int w8))) value_local ∷ [];
      body = seq (assign (place 3 []) (rv_opd (copy (place 1 (deref (seen V) ∷ field 0 ∷ field 1 ∷ [])))))
          (seq (assign (place 4 []) (addr_of (place 1 (deref (seen V) ∷ field 0 ∷ field 0 ∷ deref (ty_int w8) ∷ []))))
          (seq (assign (place 5 []) (aggregate (copy (place 4 []) ∷ copy (place 3 []) ∷ []))) then_4));
    }

  abbrev stayed : Stays ended.signature.params ended.kept
  stayed = (stay_dropped (mut_ref_to (0 ∷ []) tt (plain (λ κs. row V (named_lft 2 1 tt κs)))) no, tt)

  module _ {M : Type 1} {𝓤 : Ura M} (𝓛 : Logic 𝓤) (𝓜 : Model 𝓤 𝓛.H) (𝓡 : Running 𝓤 𝓛.H 𝓜) (locate : Callee) (located : Meets 𝓛 locate_ended.signature (𝓡.run (𝓡.env locate)) (closing 𝓛 locate_ended (locates 𝓛 P)))
      (into_slice_wired : Wired 𝓡.env into_slice_symbol.code) (name : Callee) (closed : Closed 𝓤 𝓛.H (tables 𝓤 𝓛.H 𝓜 𝓡 𝓡.env).C (tables 𝓤 𝓛.H 𝓜 𝓡 𝓡.env).Λ name (code locate)) where
    pub borrows_located : Meets 𝓛 ended.signature (𝓡.run (𝓡.env name)) (closing 𝓛 ended (borrows 𝓛))
    borrows_located =
        let c = borrows 𝓛 in let W = walk_of 𝓛 ended stayed c in let 𝓣 = tables 𝓤 𝓛.H 𝓜 𝓡 𝓡.env in
        proved 𝓛 ended stayed c 𝓜 𝓡 (Goes-spent_ref 𝓛 2 (0 ∷ []) tt (plain (λ κs. row V (named_lft 2 1 tt κs))), tt)
        name (code locate) closed
        (λ κs. (mut_vals, tt)) (λ κs. (mut_Tells (named 0) κs.0 (row V (named_lft 2 1 tt κs)), tt))
        (λ κs qs bounds a n are.
        let κ : Lft = κs.0 in let κ' : Lft = κs.1.0 in let life : NamedLft = named_lft 2 1 tt κs in let q : Share = qs.0 in
        let b : ℕ = a.0.ref_ptr.0 in let o : ℕ = a.0.ref_ptr.1 in let x : V.D = a.0.now in let h : MutBor (List ℕ) = V.buffer x in
        let xs : List ℕ = h.now in let i : ℕ = P.first xs in let j : ℕ = P.last xs in
        let y : W.Ghost = ((κs, qs, bounds, a, (mut_vals a.0, tt)), n) in
        let S : RattleType = row V life in let vs : List Val = stored V x in
        qed 𝓛 (raw (on_entry 𝓛 ended.signature κs qs a y.0.4) ∷ raw (facts 𝓤 (P.conditions xs)) ∷ []) ∵
        move ! (1 ∷ []) $ use1 𝓛 (raw (fact 𝓤 (All (P.conditions xs)))) (facts_e 𝓛 (P.conditions xs)) $ heard ! _ (λ fine.
        use1 𝓛 ((‵ (flft κ q) ⊛ (‵ (flft κ' qs.1.0) ⊛ ‵ ftrue)) ⊛ ‵ (owns (MutRef (named 0) κ S ∷ []) a y.0.4)) (id⊢ 𝓤 _) $
        split ! $ split ! $ move ! (2 ∷ []) $ fsplit ! $ fsplit3 ! $ drop ! $ move ! (0 ∷ 1 ∷ 3 ∷ []) $
        -- [obs; the borrow; the token; true; the other tokens]
        enter ! _ _ _ _ _ $ alloc_all ! (λ l. pass_all ! refl ((tt, tt), tt) $
        opens ! tt S {h = x} b o (λ us. spelt ! S (Is S) (shows 𝓛 S) (stored V) (LL.Tells-lowered (struct V life) V.propositions (laws V life)) full_share x us b o $
        move ! (1 ∷ []) $ peeks ! S (Is S) (shows 𝓛 S) x vs (λ was. move ! (1 ∷ 0 ∷ []) $
        let rm : Room u8 (length xs) = (LL.owed (type V life) (laws V life) x vs was).0.0.1 in
        -- [the cell of the struct; what it owns; the open borrow, in three entries; true; the other tokens]
        sets ! (of_opd ! (load ! (through ! refl (fld ! refl (fld ! refl (stop !)))) (look_in ! 0 (sub ! 1 refl (sub ! 0 refl (whole !)))))) refl (tt, record { fits = rm.0 }) $
        use1 𝓛 (‵ (fat full_share (seen V) b o (stored_value V x))) (retype 𝓛 full_share (raw_ty (lone S.mir)) (seen V) refl b o (stored_value V x)) $
        sets ! (addr ! (through ! refl (fld ! refl (fld ! refl (hop ! (look_in ! 0 (sub ! 0 refl (sub ! 0 refl (whole !)))) (stop !)))))) refl (tt, tt) $
        use1 𝓛 (‵ (cell_at full_share S.mir vs b o)) (retype 𝓛 full_share (seen V) (raw_ty (lone S.mir)) refl b o (stored_value V x)) $
        sets ! (agg ! (and_then ! (get ! refl) (and_then ! (get ! refl) (no_more !)))) refl (tt, (tt, (record { fits = rm.0 }, tt))) $
        closes ! tt S x vs b o $
        use3 𝓛 (later (some (held_borrowed 𝓛 (named 0) (named 1) κ κ' bounds.0 q S u8 b o 0 a.0.ghost_name x h V.make (hands V life 𝓛 x) rm)))
        (borrows_held 𝓛 (named 0) (named 1) κ κ' bounds.0 q S u8 b o 0 a.0.ghost_name x h V.make (hands V life 𝓛 x) rm) $ await ! tt $ pick ! (λ δ. split3 ! $
        -- [the slice; the token; what the view ends as; true; the other tokens]
        let G = triple_of 𝓛 locate_ended.signature (closing 𝓛 locate_ended (locates 𝓛 P)) in
        let all : MutBor (List ℕ) = record { ref_ptr = h.ref_ptr; ghost_name = δ; now = xs } in
        let z : G.Ghost = (((κ, tt), (q, tt), tt, (all, tt), (mut_slice_vals all, tt)), tt) in
        nothing ! $ move ! (1 ∷ 0 ∷ []) $ join ! $ nothing ! $ move ! (2 ∷ 0 ∷ []) $ join ! $ join ! $
        use0 𝓛 (raw (facts 𝓤 (P.conditions xs))) (facts_i 𝓛 (P.conditions xs) fine) $ move ! (1 ∷ 0 ∷ []) $ use2 𝓛 (raw (G.pre z)) (id⊢ 𝓤 _) $
        calls_at ! (framed 𝓤 𝓛.H 𝓜 𝓣) G located z (and_then ! (get ! refl) (no_more !)) (λ v.
        use1 𝓛 (later (some (λ (t : Located). ((‵ (flft κ q) ⊛ ‵ ftrue) ⊛ ‵ ((L.the_row (named_lft 1 0 tt (κ, tt))).own_val t (v ∷ []))) ⊛
        some (λ (ws : Lasts locate_ended (κ, tt) z.0.3). ‵ (lasts locate_ended (κ, tt) z.0.3 ws) ⊛ raw (fact 𝓤 (Locates all i j t)))))) (id⊢ 𝓤 _) $
        await ! tt $ pick ! (λ t. split ! $ split ! $ split ! $ move ! (3 ∷ []) $ pick ! (λ ws. split ! $ drop ! $ heard ! _ (λ is.
        -- [the token; true; the located part; the view follows the slice; true; the other tokens]
        let R : RattleType = L.the_row (named_lft 1 0 tt (κ, tt)) in let us' : List Val = L'.lowered t ∷ [] in
        move ! (2 ∷ []) $ peeks ! R (Is R) (shows 𝓛 R) t (v ∷ []) (λ at.
        let same : v ∷ [] ≡ L'.lowered t ∷ [] = (L'.lowers (named_lft 1 0 tt (κ, tt))).val_is t (v ∷ []) at in
        let known = LL.owed (L.the_type (named_lft 1 0 tt (κ, tt))) (L'.the_laws (named_lft 1 0 tt (κ, tt))) t (v ∷ []) at in
        rewrite ! 0 (λ (us : List Val). ‵ (R.own_val t us)) same refl $
        lands_as ! (ap only same) refl ((tt, ((tt, (record { fits = known.0.0.1.0 }, tt)), (record { fits = known.1.0.1 }, (record { fits = known.1.1.0.1 }, tt))))) $
        let G' = triple_of 𝓛 into_slice.signature (into_slice.spec 𝓛 𝓜.mem 𝓡.returns) in
        let z' : G'.Ghost = (((κ, tt), (q, tt), tt, (t, tt), (us', tt)), tt) in
        let len : length t.bytes.now ≡ length xs = ap length is.same_bytes in
        let lo : t.start ≤ t.end = omega (arith, is.start, is.end, P.order xs fine) in
        let hi : t.end ≤ length t.bytes.now = omega (arith, is.end, len, P.in_bounds xs fine) in
        nothing ! $ move ! (1 ∷ 0 ∷ []) $ join ! $ move ! (1 ∷ 2 ∷ 0 ∷ []) $ join ! $ join ! $
        use0 𝓛 (raw (fact 𝓤 (t.end ≤ length t.bytes.now))) (fact_i 𝓤 (t.end ≤ length t.bytes.now) (emp 𝓤) hi) $
        use0 𝓛 (raw (fact 𝓤 (t.start ≤ t.end))) (fact_i 𝓤 (t.start ≤ t.end) (emp 𝓤) lo) $ join ! $ move ! (1 ∷ 0 ∷ []) $ use2 𝓛 (raw (G'.pre z')) (id⊢ 𝓤 _) $
        calls_at ! (framed 𝓤 𝓛.H 𝓜 𝓣) G' (met 𝓤 𝓛 𝓜 𝓡 into_slice_wired) z' (and_then ! (get ! refl) (no_more !)) (λ v'.
        use1 𝓛 (later (some (λ (r : MutBor (List ℕ)). ((‵ (flft κ q) ⊛ ‵ ftrue) ⊛ ‵ ((MutSlice (named 0) κ u8).own_val r (v' ∷ []))) ⊛
        some (λ (ws' : Lasts into_slice.ended (κ, tt) z'.0.3). ‵ (lasts into_slice.ended (κ, tt) z'.0.3 ws') ⊛
        (‵ (follows (Array u8 0) (Array u8 0) t.bytes.ghost_name r.ghost_name (with_range t.bytes.now t.start t.end)) ⊛ raw (fact 𝓤 (r.now ≡ slice_range t.bytes.now t.start t.end))))))) (id⊢ 𝓤 _) $
        await ! tt $ pick ! (λ r. split ! $ split ! $ split ! $ move ! (3 ∷ []) $ pick ! (λ ws'. split ! $ drop ! $ split ! $ move ! (1 ∷ []) $ heard ! _ (λ part.
        -- [the slice follows the part; the token; true; the part; the view follows the slice; true; the other tokens]
        rewrite ! 0 (λ (γ : GName). ‵ (follows (Array u8 0) (Array u8 0) γ r.ghost_name (with_range t.bytes.now t.start t.end))) is.same_borrow refl $
        rewrite ! 0 (λ (F : List ℕ → List ℕ). ‵ (follows (Array u8 0) (Array u8 0) δ r.ghost_name F)) (λ k w. with_range (is.same_bytes k) (is.start k) (is.end k) w) refl $
        move ! (4 ∷ 0 ∷ []) $ use2 𝓛 (‵ (follows S (Array u8 0) a.0.ghost_name r.ghost_name (λ w. V.make (record h { now = with_range xs i j w }))))
        (follows_then 𝓛 S (Array u8 0) (Array u8 0) (λ ws''. V.make (record h { now = ws'' })) (with_range xs i j) a.0.ghost_name δ r.ghost_name) $
        rewrite ! 0 (λ (F : List ℕ → V.D). ‵ (follows S (Array u8 0) a.0.ghost_name r.ghost_name F)) (λ k w. V.make (record h { now = P.left_is xs w k })) refl $
        -- [the view follows the part; the token; true; the part; true; the other tokens]
        move ! (3 ∷ []) $ peeks ! (MutSlice (named 0) κ u8) (Is (MutSlice (named 0) κ u8)) (shows 𝓛 (MutSlice (named 0) κ u8)) r (v' ∷ []) (λ at'.
        rewrite ! 0 (λ (us : List Val). ‵ ((MutSlice (named 0) κ u8).own_val r us)) at'.0.0 refl $
        lands_as ! (ap only at'.0.0) refl (tt, (tt, (record { fits = at'.0.1.0 }, tt))) $
        returns ! (look_at ! 0 refl) $ free_all ! refl $ keep ! (0 ∷ 1 ∷ 2 ∷ 5 ∷ []) $
        suffices ! _ (ends_at 𝓛 ended stayed c y (slice_val r.ref_ptr (length r.now)) r (tt, tt) (tt, tt)) $
        nothing ! $ nothing ! $ fjoin ! $ join ! $ move ! (2 ∷ 3 ∷ []) $ join ! $ join ! $ frame ! $
        says ! (part ∙ (λ k. slice_range (is.same_bytes k) (is.start k) (is.end k)) ∙ P.part_is xs) $ done !))))))))))))))))
