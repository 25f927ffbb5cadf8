-- A function of the form
--     fn f(x: &mut T, flag: bool) -> E { let s = g(*x, flag); *x = s.second; s.first }
-- leaves the second field of `step x flag` at x and returns the first, where g meets `r ≡ step x flag` and returns a struct of an E and a T: a walk of its code,
-- by hand, once for all structs T, all E that own only facts and all steps. The borrow is opened, what lies there is copied out and passed to g, the second field
-- of what g returns is stored, the borrow is closed at it, and the first field is returned. All that is known of the types is their laws, and of g its contract.
-- Assumes nothing.
use Rattle.std.specs.Prelude.{◌≡◌, refl, ℕ, Bool, [], ◌∷◌, ◌++◌, List, T as Holds}
use Rattle.std.proofs.Common.{ap, subst}
use seplogic.Ra.Ura.{Ura}
use base.Fraction.{full_share}
use mir.Syntax.{Callee, Sym, Ty, ty_bool, ty_ref, ty_named, ty_struct, tnil, tcons, named, mut, Fn, local, value_local, seq, assign, call, return, place, deref, field as at_field, rv_opd, copy}
use mir.Val.{Val, vbool, vptr, WT, has_ty}
use base.Logic.{SProp, ent, sep, emp, via, fst∗, snd∗, ex_e, id⊢}
use base.Fml.{GName, Lft, Share, ftrue, fat, flft, fobs, fbor}
use prog.Model.{Model}
use prog.Routine.{Routine, Env}
use prog.Wp.{WpFn, Tables, Closed}
use types.Logic.{Logic, sem}
use contract.Monad.{fact}
use contract.Running.{Running, tables, tables_of}
use types.Kit.{‵, raw, ◌⊛◌, some, later, ◌$◌, ◌∵◌, !, qed, by, move, keep, drop, use1, split, join, pick, rewrite, fsplit, fsplit3, fjoin, fjoin3, feq_i, suffices, frame, await, done}
use types.Run.{look, look_raw, init, store_raw, forget, stop, hop, fld, from, load, of_opd, and_then, no_more, assigns, land, returns, enter, alloc1, alloc0, params1, pass1, pass0, free1, free0}
use types.Part.{whole, sub, look_in}
use types.SemTy.{Body}
use sound.WpLaws.{fm_of, WpFn-mono}
use denote.Builtin.{RefMutOf, bool}
use denote.Exit.{yes}
use denote.Laws.{Is, Tells, Typed, shows}
use denote.Memory.{mem}
use denote.Plain.{Boolean, bool_vals, bool_Tells, bool_Makes}
use denote.RattleType.{RattleType, Denots, owns, writtens}
use denote.Ref.{MutBor, MutRef, mut_vals, mut_Tells}
use denote.Shadow.{pure_i}
use denote.Signature.{plain}
use denote.Steps.{only, opens, closes, owned, peeks, heard, nothing}
use denote.Struct.Declared.{Declared, row, field, shape}
use denote.Struct.Field.{Field, rows}
use denote.Struct.Laws.{FLaws, Plain, Lawss, spells, tellss, lawfuls}
use denote.Struct.Recorded.{Recorded, recorded_tells}
use denote.Struct.Steps.{spelt}
use denote.Struct.Struct.{Shape, Struct, layout, to_tys, machine, AreAll, tells_all, Struct-Tells, Struct-Lawful}
use denote.Triple.Call.{calls_at}
use denote.Triple.Clauses.{Ended, Clauses, ensured, lasts, closing}
use denote.Triple.Entry.{on_entry}
use denote.Triple.Spec.{triple_of}
use denote.Triple.Statement.{Contract, Triple}
use denote.Triple.Table.{entered, cited}
use denote.Triple.Walked.{says, Stays, stay_ref, stay_none, walk_of, Goes-none, Goes-ref, ends_at, walked, walk_Meets}

-- what such a function is made of: the struct T, and E as a field of another, with their laws; the struct of the two, by its name S, its type D and its fields;
-- the step; and g's name
pub record Parts : Type 2 where
  pub T : Declared
  pub T_laws : FLaws (field T)
  pub T_plain : Plain (field T)
  pub E : Field
  pub E_laws : FLaws E
  pub E_plain : Plain E
  pub E_mir : Ty
  pub E_one : E.row.mir ≡ E_mir ∷ []
  pub S : Sym
  pub D : Type 0
  pub first : D → E.Value
  pub second : D → T.D
  pub one : (x y : D) → ◌≡◌ {A = Denots (E.row ∷ (field T).row ∷ [])} (E.into (first x), (T.to (second x), tt)) (E.into (first y), (T.to (second y), tt)) → x ≡ y
  pub step : T.D → Bool → D
  pub g : Callee

module _ (P : Parts) where
  abbrev T_row : RattleType
  T_row = row P.T

  abbrev T_mir : Ty
  T_mir = layout (shape P.T)

  abbrev E_row : RattleType
  E_row = Recorded P.E.row P.E.Value P.E.into P.E.into_one

  abbrev S_parts : List Field
  S_parts = P.E ∷ field P.T ∷ []

  abbrev S_shape : Shape
  S_shape = record { name = P.S; args = []; types = []; fields = rows S_parts }

  abbrev S_to : P.D → Denots (rows S_parts)
  S_to d = (P.E.into (P.first d), (P.T.to (P.second d), tt))

  -- the struct of the two, as a declared type's row is made
  abbrev S_row : RattleType
  S_row = Recorded (Struct S_shape) P.D S_to P.one

  abbrev S_mir : Ty
  S_mir = ty_struct P.S (tcons P.E_mir (tcons T_mir tnil))

  abbrev S_laws : Lawss S_parts
  S_laws = (P.E_laws, (P.T_laws, tt))

  S_tells : Tells S_row (Is S_row) (λ d. machine S_shape (spells S_parts S_laws) (S_to d) ∷ [])
  S_tells = recorded_tells (Struct S_shape) P.D S_to P.one (λ a. machine S_shape (spells S_parts S_laws) a ∷ []) (Struct-Tells S_shape (spells S_parts S_laws) (tellss S_parts S_laws))

  -- the function's code
  abbrev code : Fn
  code = record {
    lifetimes = 1;
    outlives = [];
    ty_params = [];
    givens = 0;
    params = 2;
    locals = local P.E_mir value_local ∷ local (ty_ref (named 0) mut (ty_named (P.T.name, P.T.args) (writtens P.T.types))) value_local ∷ local ty_bool value_local ∷ local S_mir value_local ∷ local T_mir value_local ∷ local T_mir value_local ∷ [];
    body =
        seq (assign (place 4 []) (rv_opd (copy (place 1 (deref T_mir ∷ [])))))
        (seq (call P.g (copy (place 4 []) ∷ copy (place 2 []) ∷ []) (place 3 []))
        (seq (assign (place 5 []) (rv_opd (copy (place 3 (at_field 1 ∷ [])))))
        (seq (assign (place 1 (deref T_mir ∷ [])) (rv_opd (copy (place 5 []))))
        (seq (assign (place 0 []) (rv_opd (copy (place 3 (at_field 0 ∷ [])))))
        return))));
  }

  -- the signatures of g and of the function
  abbrev g_ended : Ended
  g_ended = record { signature = record { lifetimes = 0; outlives = []; params = plain (λ _. T_row) ∷ plain (λ _. bool) ∷ []; result = plain (λ _. S_row) }; kept = (yes, (yes, tt)) }

  abbrev ended : Ended
  ended = record { signature = record { lifetimes = 1; outlives = []; params = RefMutOf (0 ∷ []) tt (plain (λ _. T_row)) (λ _. tt) ∷ plain (λ _. bool) ∷ []; result = plain (λ _. E_row) }; kept = (yes, (yes, tt)) }

  abbrev stayed : Stays ended.signature.params ended.kept
  stayed = (stay_ref (0 ∷ []) tt (plain (λ _. T_row)), (stay_none (λ _. Boolean) yes, tt))

  abbrev val : P.T.D → Val
  val h = P.T_laws.val (P.T.to h)

  abbrev E_val : P.E.Value → Val
  E_val e = P.E_laws.val (P.E.into e)

  -- what whoever holds what g returned knows of its fields
  abbrev has : (r : P.D) (v : Val) → Is S_row r (v ∷ []) → Is E_row (P.first r) (E_val (P.first r) ∷ []) × (Is T_row (P.second r) (val (P.second r) ∷ []) × Unit {0})
  has r v is = subst (AreAll (rows S_parts) (S_to r)) (tells_all (rows S_parts) (spells S_parts S_laws) (tellss S_parts S_laws) (S_to r) is.0 is.1.1) is.1.1

  module _ {M : Type 1} {𝓤 : Ura M} (𝓛 : Logic 𝓤) where
    -- the contracts of the two
    open 𝓛 use {H, A}

    abbrev g_clauses : Clauses 𝓤 g_ended
    g_clauses κs a = record { ghost = Unit {0}; requires = λ _. emp 𝓤; ensures = λ _ r _. fact 𝓤 (r ≡ P.step a.0 a.1.0) }

    abbrev clauses : Clauses 𝓤 ended
    clauses κs a = record { ghost = Unit {0}; requires = λ _. emp 𝓤; ensures = λ _ r e. fact 𝓤 ((e.0.now ≡ P.second (P.step a.0.now a.1.0)) × (r ≡ P.first (P.step a.0.now a.1.0))) }

    abbrev Step : Contract 𝓤
    Step = triple_of 𝓛 g_ended.signature (closing 𝓛 g_ended g_clauses)

    abbrev Whole : Contract 𝓤
    Whole = triple_of 𝓛 ended.signature (closing 𝓛 ended clauses)

    g_said : (h : P.T.D) (c : Bool) (r : P.D) → ent 𝓤 (ensured 𝓛 g_ended g_clauses tt (h, (c, tt)) tt r) (fact 𝓤 (r ≡ P.step h c))
    g_said h c r = ex_e 𝓤 _ (λ ws. snd∗ 𝓤 (sem 𝓛 (lasts g_ended tt (h, (c, tt)) ws)) (fact 𝓤 (r ≡ P.step h c)))

    module _ where
      E_typed : (e : P.E.Value) → Is E_row e (E_val e ∷ []) → Holds (has_ty P.E_mir (E_val e)) × WT (E_val e)
      E_typed e is = (subst (λ (τs : List Ty). Typed τs (E_val e ∷ [])) P.E_one ((P.E_laws.lawful 𝓛).typed (P.E.into e) (E_val e ∷ []) is)).0

      S_typed : (r : P.D) (v : Val) → Is S_row r (v ∷ []) → Holds (has_ty S_mir v) × WT v
      S_typed r v is = (subst (λ (τs : List Ty). Typed (ty_struct P.S (to_tys (τs ++ T_mir ∷ [])) ∷ []) (v ∷ [])) P.E_one ((Struct-Lawful 𝓛 S_shape (lawfuls 𝓛 S_parts S_laws)).typed (S_to r) (v ∷ []) is)).0

      module _ (κ : Lft) (q : Share) (b o : ℕ) (γ : GName) (h : P.T.D) (c : Bool) where
        abbrev x : MutBor P.T.D × (Bool × Unit {0})
        x = (record { ref_ptr = (b, o); ghost_name = γ; now = h }, (c, tt))

        abbrev at : List Val × (List Val × Unit {0})
        at = (vptr b o ∷ [], (vbool c ∷ [], tt))

        abbrev Post : Val → SProp 𝓤
        Post = (walk_of 𝓛 ended stayed clauses).post (((κ, tt), (q, tt), tt, x, at), tt)

        exits : (r : P.D) → r ≡ P.step h c → Is E_row (P.first r) (E_val (P.first r) ∷ [])
            → ent 𝓤 (sep 𝓤 (A.obs γ (T_row.coded.code (P.second r))) (sep 𝓤 (A.bor κ (Body (mem T_row) b o γ)) (A.lft κ q))) (Post (E_val (P.first r)))
        exits r e is =
            qed 𝓛 (‵ (fobs γ (T_row.coded.code (P.second r))) ∷ ‵ (fbor κ (Body (mem T_row) b o γ)) ∷ ‵ (flft κ q) ∷ []) ∵
            suffices ! _ (ends_at 𝓛 ended stayed clauses (((κ, tt), (q, tt), tt, x, at), tt) (E_val (P.first r)) (P.first r) (P.second r, (tt, tt)) (tt, (tt, tt))) $ says ! (ap P.second e, ap P.first e) $ nothing ! $ move ! (3 ∷ 0 ∷ []) $ join ! $
            frame ! $ feq_i ! (List Val) (vptr b o ∷ []) (vptr b o ∷ []) refl $ fjoin3 ! $ nothing ! $ owned ! Boolean (Is Boolean) (bool_Makes 𝓛) c (vbool c ∷ []) refl $ fjoin ! $ move ! (1 ∷ 0 ∷ []) $ fjoin ! $
            pure_i ! (E_row.own_val (P.first r) (E_val (P.first r) ∷ [])) (P.E_plain (P.E.into (P.first r)) _) is $ move ! (1 ∷ 0 ∷ []) $ done !

        -- what g's triple binds outside
        abbrev to_g : Step.Ghost
        to_g = ((tt, tt, tt, (h, (c, tt)), (val h ∷ [], (vbool c ∷ [], tt))), tt)

        goes_g : ent 𝓤 (sem 𝓛 (T_row.own_val h (val h ∷ []))) (Step.pre to_g)
        goes_g =
            qed 𝓛 (‵ (T_row.own_val h (val h ∷ [])) ∷ []) ∵ nothing ! $ owned ! Boolean (Is Boolean) (bool_Makes 𝓛) c (vbool c ∷ []) refl $ fjoin ! $ move ! (1 ∷ 0 ∷ []) $ fjoin ! $ nothing ! $ join ! $ frame ! $ done !

        walk : (𝓣 : Tables 𝓤 H) → Triple 𝓤 (𝓣.C P.g) Step → ent 𝓤 (on_entry 𝓛 ended.signature (κ, tt) (q, tt) x at) (WpFn 𝓤 H 𝓣.C 𝓣.Λ code (vptr b o ∷ vbool c ∷ []) Post)
        walk 𝓣 known =
            qed 𝓛 ((‵ (flft κ q) ⊛ ‵ ftrue) ∷ ‵ (owns (MutRef (named 0) κ T_row ∷ Boolean ∷ []) x at) ∷ []) ∵ split ! $ move ! (2 ∷ []) $ fsplit ! $ fsplit3 ! $ drop ! $ move ! (0 ∷ 1 ∷ 3 ∷ []) $
            -- [obs; the borrow; the token; what the flag owns; true]
            enter ! 𝓣.C 𝓣.Λ code (vptr b o ∷ vbool c ∷ []) _ $
            alloc1 ! (λ l₀. alloc1 ! (λ l₁. alloc1 ! (λ l₂. alloc1 ! (λ l₃. alloc1 ! (λ l₄. alloc1 ! (λ l₅. alloc0 ! $ params1 ! $ pass1 ! (init ! 8 refl (tt, tt)) $ pass1 ! (init ! 6 refl (tt, tt)) $ pass0 ! $
            move ! (12 ∷ 13 ∷ 14 ∷ []) $ opens ! tt T_row {h = h} b o (λ vs. spelt ! T_row (Is T_row) (shows 𝓛 T_row) (λ d. val d ∷ []) (λ d. P.T_laws.tells (P.T.to d)) full_share h vs b o $
            move ! (1 ∷ []) $ peeks ! T_row (Is T_row) (shows 𝓛 T_row) h (val h ∷ []) (λ was. move ! (1 ∷ 0 ∷ []) $
            -- [the struct's cell; what it owns; the open borrow; obs; auth; _5; …; _4; …; _3; …; _2; …; _1; …; room for _0; …]
            assigns ! (of_opd ! (load ! (from ! (hop ! (look ! 13 refl) (stop !))) (look_raw ! 0 refl))) (from ! (stop !)) (init ! 7 refl ((P.T_laws.lawful 𝓛).typed (P.T.to h) _ was).0) $
            move ! (1 ∷ []) $ use1 𝓛 (raw (Step.pre to_g)) goes_g $
            calls_at ! (fm_of 𝓤 H 𝓛.laws 𝓣) Step known to_g (and_then ! (load ! (from ! (stop !)) (look ! 7 refl)) (and_then ! (load ! (from ! (stop !)) (look ! 11 refl)) (no_more !))) (λ v.
            use1 𝓛 (later (some (λ (r : P.D). (‵ ftrue ⊛ ‵ (S_row.own_val r (v ∷ []))) ⊛ raw (ensured 𝓛 g_ended g_clauses tt (h, (c, tt)) tt r)))) (id⊢ 𝓤 _) $ await ! tt $ pick ! (λ r.
            split ! $ move ! (1 ∷ []) $ use1 𝓛 (raw (fact 𝓤 (r ≡ P.step h c))) (g_said h c r) $ heard ! (r ≡ P.step h c) (λ e. split ! $ drop ! $
            peeks ! S_row (Is S_row) (shows 𝓛 S_row) r (v ∷ []) (λ is.
            -- [what the result owns; the struct's cell; the open borrow; obs; auth; _5; …; _4; …; _3; …; _2; …; _1; …; room for _0; …]
            land ! (from ! (stop !)) (init ! 9 refl (S_typed r v is)) $
            rewrite ! 9 (λ (u : Val). ‵ (fat full_share S_mir l₃ 0 u)) (ap only (S_tells r (v ∷ []) is)) refl $
            assigns ! (of_opd ! (load ! (from ! (fld ! refl (stop !))) (look_in ! 9 (sub ! 1 refl (whole !))))) (from ! (stop !)) (init ! 5 refl ((P.T_laws.lawful 𝓛).typed (P.T.to (P.second r)) _ (has r v is).1.0).0) $
            assigns ! (of_opd ! (load ! (from ! (stop !)) (look ! 5 refl))) (from ! (hop ! (look ! 13 refl) (stop !))) (store_raw ! 1 refl ((P.T_laws.lawful 𝓛).typed (P.T.to (P.second r)) _ (has r v is).1.0).0) $
            assigns ! (of_opd ! (load ! (from ! (fld ! refl (stop !))) (look_in ! 9 (sub ! 0 refl (whole !))))) (from ! (stop !)) (init ! 15 refl (E_typed (P.first r) (has r v is).0)) $
            drop ! $ pure_i ! (T_row.own_val (P.second r) (val (P.second r) ∷ [])) (P.T_plain (P.T.to (P.second r)) (val (P.second r) ∷ [])) (has r v is).1.0 $ move ! (1 ∷ 0 ∷ []) $ closes ! tt T_row (P.second r) (val (P.second r) ∷ []) b o $
            returns ! (look ! 13 refl) $ forget ! 3 refl $ forget ! 5 refl $ forget ! 7 refl $ forget ! 9 refl $ forget ! 11 refl $ forget ! 13 refl $
            move ! (13 ∷ 14 ∷ []) $ free1 ! $ move ! (11 ∷ 12 ∷ []) $ free1 ! $ move ! (9 ∷ 10 ∷ []) $ free1 ! $ move ! (7 ∷ 8 ∷ []) $ free1 ! $ move ! (5 ∷ 6 ∷ []) $ free1 ! $ move ! (3 ∷ 4 ∷ []) $ free1 ! $ free0 ! $
            keep ! (0 ∷ 1 ∷ 2 ∷ []) $ by ! (exits r e (has r v is).0)))))))))))))

      meets : (𝓣 : Tables 𝓤 H) → Triple 𝓤 (𝓣.C P.g) Step → Triple 𝓤 (WpFn 𝓤 H 𝓣.C 𝓣.Λ code) Whole
      meets 𝓣 known =
          walk_Meets 𝓛 ended stayed (Goes-ref 𝓛 1 0 tt (plain (λ _. T_row)), (Goes-none 𝓛 1 (λ _. Boolean) yes (λ κs x f. refl), tt)) clauses (WpFn 𝓤 H 𝓣.C 𝓣.Λ code) (WpFn-mono 𝓤 H 𝓛.laws 𝓣 code)
          (walked 𝓛 ended stayed clauses (WpFn 𝓤 H 𝓣.C 𝓣.Λ code) (λ κs. (mut_vals, (bool_vals, tt))) (λ κs. (mut_Tells (named 0) κs.0 T_row, (bool_Tells, tt)))
          (λ κs qs bounds a _ _. via 𝓤 _ (fst∗ 𝓤 _ (emp 𝓤)) (walk κs.0 qs.0 a.0.ref_ptr.0 a.0.ref_ptr.1 a.0.ghost_name a.0.now a.1.0 𝓣 known)))

  -- the function's entry in a table meets its contract, where the routine of g does
  pub in_place : {M : Type 1} {𝓤 : Ura M} (𝓛 : Logic 𝓤) (𝓜 : Model 𝓤 𝓛.H) (𝓡 : Running 𝓤 𝓛.H 𝓜) (γ : Env) (k : Callee) → Closed 𝓤 𝓛.H (tables 𝓤 𝓛.H 𝓜 𝓡 γ).C (tables 𝓤 𝓛.H 𝓜 𝓡 γ).Λ k code
      → (r : Routine) → γ P.g ≡ r → Triple 𝓤 (𝓡.run r) (Step 𝓛) → Triple 𝓤 ((tables 𝓤 𝓛.H 𝓜 𝓡 γ).C k) (Whole 𝓛)
  unfolding tables_of
  in_place {𝓤 = 𝓤} 𝓛 𝓜 𝓡 γ k closed r at known =
      entered 𝓤 𝓛.H (Whole 𝓛) (tables 𝓤 𝓛.H 𝓜 𝓡 γ).C (tables 𝓤 𝓛.H 𝓜 𝓡 γ).Λ k code closed
      (meets 𝓛 (tables_of 𝓤 𝓛.H 𝓜 (tables 𝓤 𝓛.H 𝓜 𝓡 γ)) (cited 𝓤 𝓛.H (Step 𝓛) 𝓜 𝓡 γ P.g r at known))
