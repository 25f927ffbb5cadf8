-- A function of the form
--     fn f(xs: &[T]) -> B { g(h(xs)) }
-- returns `whole xs`, where h meets `r ≡ first xs`, g meets `r ≡ second l` and `second (first xs) ≡ whole xs`: a walk of its code, by hand, once for all structs T,
-- L and B. What the slice reference owns goes to h, and nothing of it is kept for the exit, where the contract asks for none. All that is known of the structs is
-- their laws, and of h and g their contracts. Assumes nothing.
use Rattle.std.specs.Prelude.{◌≡◌, refl, List, [], ◌∷◌, length}
use Rattle.std.proofs.Common.{◌∙◌, ap}
use seplogic.Ra.Ura.{Ura}
use mir.Syntax.{Callee, Fn, imm, named, ty_named, ty_ref, local, value_local, seq, call, return, place, copy}
use mir.Val.{Val}
use base.Logic.{SProp, ent, sep, emp, via, fst∗, snd∗, ex_e, id⊢}
use base.Fml.{Lft, Share, ftrue, flft}
use prog.Model.{Model}
use prog.Routine.{Routine, Env}
use prog.Wp.{WpFn, Tables, Closed}
use types.Logic.{Logic, sem}
use contract.Monad.{fact}
use contract.Running.{Running, tables, tables_of}
use types.Kit.{‵, raw, ◌⊛◌, some, later, ⋆, ◌$◌, ◌∵◌, !, qed, by, move, keep, drop, use0, use1, use2, split, join, pick, fsplit, fjoin, suffices, frame, await, done}
use types.Run.{look, init, forget, stop, from, load, and_then, no_more, land, returns, enter, alloc1, alloc0, params1, pass1, pass0, free1, free0}
use sound.WpLaws.{fm_of, WpFn-mono}
use denote.Builtin.{SliceRefOf}
use denote.Exit.{yes}
use denote.Laws.{Is, shows}
use denote.RattleType.{RattleType, owns, writtens}
use Rattle.std.specs.Borrow.{Bor}
use denote.Signature.{plain}
use denote.Slice.{slice_ty, slice_val, ShrSlice, Room, shr_slice_vals, shr_slice_Tells}
use denote.Steps.{nothing, owned, facts, heard}
use denote.Struct.Declared.{Declared, row, fields, shape}
use denote.Struct.Laws as LL
use denote.Struct.Struct.{Plains, layout}
use denote.Triple.Call.{calls_at}
use denote.Triple.Clauses.{Ended, Clauses, ensured, lasts, closing}
use denote.Triple.Entry.{Vals, on_entry}
use denote.Triple.Spec.{triple_of}
use denote.Triple.Statement.{Contract, Triple}
use denote.Triple.Table.{entered, cited}
use denote.Triple.Walked.{says, Stays, stay_dropped, walk_of, ends_at, walked, Goes-dropped, walk_Meets}

-- what such a function is made of: the struct T of the elements; the structs L and B that h and g return, with their laws; the values; and the names of h and g
pub record Parts : Type 2 where
  pub T : Declared
  pub L : Declared
  pub L_laws : LL.Laws L
  pub L_plain : Plains (fields L)
  pub B : Declared
  pub B_laws : LL.Laws B
  pub B_plain : Plains (fields B)
  pub first : List T.D → L.D
  pub second : L.D → B.D
  pub whole : List T.D → B.D
  pub both : (xs : List T.D) → second (first xs) ≡ whole xs
  pub h : Callee
  pub g : Callee

module _ (P : Parts) where
  abbrev R : RattleType
  R = row P.T

  abbrev LR : RattleType
  LR = row P.L

  abbrev BR : RattleType
  BR = row P.B

  abbrev Ref : Type 0
  Ref = Bor (List P.T.D)

  abbrev sv : Ref → Val
  sv x = slice_val x.ref_ptr (length x.now)

  -- the function's code
  abbrev code : Fn
  code = record {
    lifetimes = 1;
    outlives = [];
    ty_params = [];
    givens = 0;
    params = 1;
    locals = local (layout (shape P.B)) value_local ∷ local (slice_ty (ty_ref (named 0) imm (ty_named (P.T.name, P.T.args) (writtens P.T.types)))) value_local ∷ local (layout (shape P.L)) value_local ∷ [];
    body = seq (call P.h (copy (place 1 []) ∷ []) (place 2 [])) (seq (call P.g (copy (place 2 []) ∷ []) (place 0 [])) return);
  }

  -- the signatures of h, of g and of the function
  abbrev h_ended : Ended
  h_ended = record { signature = record { lifetimes = 1; outlives = []; params = SliceRefOf (0 ∷ []) tt (plain (λ _. R)) (λ _. tt) ∷ []; result = plain (λ _. LR) }; kept = (yes, tt) }

  abbrev g_ended : Ended
  g_ended = record { signature = record { lifetimes = 0; outlives = []; params = plain (λ _. LR) ∷ []; result = plain (λ _. BR) }; kept = (yes, tt) }

  abbrev ended : Ended
  ended = record { signature = record { lifetimes = 1; outlives = []; params = SliceRefOf (0 ∷ []) tt (plain (λ _. R)) (λ _. tt) ∷ []; result = plain (λ _. BR) }; kept = (yes, tt) }

  abbrev stayed : Stays ended.signature.params ended.kept
  stayed = (stay_dropped (SliceRefOf (0 ∷ []) tt (plain (λ _. R)) (λ _. tt)) yes, tt)

  module _ {M : Type 1} {𝓤 : Ura M} (𝓛 : Logic 𝓤) where
    -- the contracts of the three
    open 𝓛 use {H, A}

    abbrev h_clauses : Clauses 𝓤 h_ended
    h_clauses κs a = record { ghost = Unit {0}; requires = λ _. emp 𝓤; ensures = λ _ r _. fact 𝓤 (r ≡ P.first a.0.now) }

    abbrev g_clauses : Clauses 𝓤 g_ended
    g_clauses κs a = record { ghost = Unit {0}; requires = λ _. emp 𝓤; ensures = λ _ r _. fact 𝓤 (r ≡ P.second a.0) }

    abbrev clauses : Clauses 𝓤 ended
    clauses κs a = record { ghost = Unit {0}; requires = λ _. emp 𝓤; ensures = λ _ r _. fact 𝓤 (r ≡ P.whole a.0.now) }

    abbrev Reads : Contract 𝓤
    Reads = triple_of 𝓛 h_ended.signature (closing 𝓛 h_ended h_clauses)

    abbrev Turns : Contract 𝓤
    Turns = triple_of 𝓛 g_ended.signature (closing 𝓛 g_ended g_clauses)

    abbrev Whole : Contract 𝓤
    Whole = triple_of 𝓛 ended.signature (closing 𝓛 ended clauses)

    h_said : (κ : Lft) (x : Ref) (r : P.L.D) → ent 𝓤 (ensured 𝓛 h_ended h_clauses (κ, tt) (x, tt) tt r) (fact 𝓤 (r ≡ P.first x.now))
    h_said κ x r = ex_e 𝓤 _ (λ ws. snd∗ 𝓤 (sem 𝓛 (lasts h_ended (κ, tt) (x, tt) ws)) (fact 𝓤 (r ≡ P.first x.now)))

    g_said : (t : P.L.D) (r : P.B.D) → ent 𝓤 (ensured 𝓛 g_ended g_clauses tt (t, tt) tt r) (fact 𝓤 (r ≡ P.second t))
    g_said t r = ex_e 𝓤 _ (λ ws. snd∗ 𝓤 (sem 𝓛 (lasts g_ended tt (t, tt) ws)) (fact 𝓤 (r ≡ P.second t)))

    abbrev to_h : Lft → Share → Ref → Reads.Ghost
    to_h κ q x = (((κ, tt), (q, tt), tt, (x, tt), (sv x ∷ [], tt)), tt)

    abbrev to_g : P.L.D → Val → Turns.Ghost
    to_g t v = ((tt, tt, tt, (t, tt), (v ∷ [], tt)), tt)

    module _ where
      goes_h : (κ : Lft) (q : Share) (x : Ref) → ent 𝓤 (sep 𝓤 (A.lft κ q) (sem 𝓛 ((ShrSlice (named 0) κ R).own_val x (sv x ∷ [])))) (Reads.pre (to_h κ q x))
      goes_h κ q x =
          qed 𝓛 (‵ (flft κ q) ∷ ‵ ((ShrSlice (named 0) κ R).own_val x (sv x ∷ [])) ∷ []) ∵
          nothing ! $ nothing ! $ move ! (2 ∷ 0 ∷ []) $ join ! $ move ! (2 ∷ 1 ∷ []) $ join ! $ move ! (1 ∷ 0 ∷ []) $ join ! $ frame ! $ done !

      goes_g : (t : P.L.D) (v : Val) → Is LR t (v ∷ []) → ent 𝓤 (emp 𝓤) (Turns.pre (to_g t v))
      goes_g t v p = qed 𝓛 [] ∵ nothing ! $ owned ! LR (Is LR) (LL.makes P.L P.L_plain 𝓛) t (v ∷ []) p $ fjoin ! $ nothing ! $ join ! $ frame ! $ done !

      module _ (κ : Lft) (q : Share) (x : Ref) where
        abbrev at : Vals ended.signature (κ, tt)
        at = (sv x ∷ [], tt)

        abbrev Post : Val → SProp 𝓤
        Post = (walk_of 𝓛 ended stayed clauses).post (((κ, tt), (q, tt), tt, (x, tt), at), tt)

        exits : (r : P.B.D) (v : Val) → r ≡ P.whole x.now → Is BR r (v ∷ []) → ent 𝓤 (⋆ 𝓛 (‵ (flft κ q) ∷ [])) (Post v)
        exits r v e p =
            qed 𝓛 (‵ (flft κ q) ∷ []) ∵
            suffices ! _ (ends_at 𝓛 ended stayed clauses (((κ, tt), (q, tt), tt, (x, tt), at), tt) v r (tt, tt) (tt, tt)) $ says ! e $
            nothing ! $ move ! (1 ∷ 0 ∷ []) $ join ! $ frame ! $ nothing ! $ nothing ! $ fjoin ! $ frame ! $ owned ! BR (Is BR) (LL.makes P.B P.B_plain 𝓛) r _ p $ done !

        walk : (𝓣 : Tables 𝓤 H) → Triple 𝓤 (𝓣.C P.h) Reads → Triple 𝓤 (𝓣.C P.g) Turns → Room R (length x.now)
            → ent 𝓤 (on_entry 𝓛 ended.signature (κ, tt) (q, tt) (x, tt) at) (WpFn 𝓤 H 𝓣.C 𝓣.Λ code (sv x ∷ []) Post)
        walk 𝓣 known-h known-g gn =
            qed 𝓛 ((‵ (flft κ q) ⊛ ‵ ftrue) ∷ ‵ (owns (ShrSlice (named 0) κ R ∷ []) (x, tt) at) ∷ []) ∵ enter ! 𝓣.C 𝓣.Λ code (sv x ∷ []) _ $
            alloc1 ! (λ l₀. alloc1 ! (λ l₁. alloc1 ! (λ l₂. alloc0 ! $ params1 ! $ pass1 ! (init ! 2 refl (tt, (tt, (record { fits = gn.0 }, tt)))) $ pass0 ! $
            move ! (7 ∷ []) $ fsplit ! $ move ! (8 ∷ []) $ split ! $ move ! (0 ∷ 2 ∷ []) $ use2 𝓛 (raw (Reads.pre (to_h κ q x))) (goes_h κ q x) $
            -- [what h asks; true; true; _2 at 3; …; _1 at 5; …; _0 at 7; …]
            calls_at ! (fm_of 𝓤 H 𝓛.laws 𝓣) Reads known-h (to_h κ q x) (and_then ! (load ! (from ! (stop !)) (look ! 5 refl)) (no_more !)) (λ u.
            use1 𝓛 (later (some (λ (r : P.L.D). ((‵ (flft κ q) ⊛ ‵ ftrue) ⊛ ‵ (LR.own_val r (u ∷ []))) ⊛ raw (ensured 𝓛 h_ended h_clauses (κ, tt) (x, tt) tt r)))) (id⊢ 𝓤 _) $ await ! tt $ pick ! (λ t.
            split ! $ move ! (1 ∷ []) $ use1 𝓛 (raw (fact 𝓤 (t ≡ P.first x.now))) (h_said κ x t) $ heard ! (t ≡ P.first x.now) (λ e. split ! $ split ! $ move ! (2 ∷ []) $
            facts ! LR (Is LR) (shows 𝓛 LR) t (u ∷ []) (λ is.
            -- [the token; true; true; true; _2 at 4; …; _1 at 6; …; _0 at 8; …]
            land ! (from ! (stop !)) (init ! 4 refl ((LL.lawful P.L P.L_laws 𝓛).typed t _ is).0) $
            use0 𝓛 (raw (Turns.pre (to_g t u))) (goes_g t u is) $
            calls_at ! (fm_of 𝓤 H 𝓛.laws 𝓣) Turns known-g (to_g t u) (and_then ! (load ! (from ! (stop !)) (look ! 5 refl)) (no_more !)) (λ v.
            use1 𝓛 (later (some (λ (r : P.B.D). (‵ ftrue ⊛ ‵ (BR.own_val r (v ∷ []))) ⊛ raw (ensured 𝓛 g_ended g_clauses tt (t, tt) tt r)))) (id⊢ 𝓤 _) $ await ! tt $ pick ! (λ r.
            split ! $ move ! (1 ∷ []) $ use1 𝓛 (raw (fact 𝓤 (r ≡ P.second t))) (g_said t r) $ heard ! (r ≡ P.second t) (λ e'. split ! $ drop ! $
            facts ! BR (Is BR) (shows 𝓛 BR) r (v ∷ []) (λ is'.
            land ! (from ! (stop !)) (init ! 8 refl ((LL.lawful P.B P.B_laws 𝓛).typed r _ is').0) $
            returns ! (look ! 8 refl) $ forget ! 4 refl $ forget ! 6 refl $ forget ! 8 refl $
            move ! (8 ∷ 9 ∷ []) $ free1 ! $ move ! (6 ∷ 7 ∷ []) $ free1 ! $ move ! (4 ∷ 5 ∷ []) $ free1 ! $ free0 ! $ keep ! (0 ∷ []) $ by ! (exits r v (e' ∙ ap P.second e ∙ P.both x.now) is'))))))))))))

      meets : (𝓣 : Tables 𝓤 H) → Triple 𝓤 (𝓣.C P.h) Reads → Triple 𝓤 (𝓣.C P.g) Turns → Triple 𝓤 (WpFn 𝓤 H 𝓣.C 𝓣.Λ code) Whole
      meets 𝓣 known-h known-g =
          walk_Meets 𝓛 ended stayed (Goes-dropped 𝓛 1 (SliceRefOf (0 ∷ []) tt (plain (λ _. R)) (λ _. tt)) yes (λ κs x f. refl), tt) clauses (WpFn 𝓤 H 𝓣.C 𝓣.Λ code) (WpFn-mono 𝓤 H 𝓛.laws 𝓣 code)
          (walked 𝓛 ended stayed clauses (WpFn 𝓤 H 𝓣.C 𝓣.Λ code) (λ κs. (shr_slice_vals, tt)) (λ κs. (shr_slice_Tells (named 0) κs.0 R, tt))
          (λ κs qs bounds a g are. via 𝓤 _ (fst∗ 𝓤 _ (emp 𝓤)) (walk κs.0 qs.0 a.0 𝓣 known-h known-g are.0.0.1)))

  -- the function's entry in a table meets its contract, where the routines of h and g do
  pub from_slice : {M : Type 1} {𝓤 : Ura M} (𝓛 : Logic 𝓤) (𝓜 : Model 𝓤 𝓛.H) (𝓡 : Running 𝓤 𝓛.H 𝓜) (γ : Env) (k : Callee) → Closed 𝓤 𝓛.H (tables 𝓤 𝓛.H 𝓜 𝓡 γ).C (tables 𝓤 𝓛.H 𝓜 𝓡 γ).Λ k code
      → (r : Routine) → γ P.h ≡ r → Triple 𝓤 (𝓡.run r) (Reads 𝓛) → (s : Routine) → γ P.g ≡ s → Triple 𝓤 (𝓡.run s) (Turns 𝓛) → Triple 𝓤 ((tables 𝓤 𝓛.H 𝓜 𝓡 γ).C k) (Whole 𝓛)
  unfolding tables_of
  from_slice {𝓤 = 𝓤} 𝓛 𝓜 𝓡 γ k closed r at-h known-h s at_g known-g =
      entered 𝓤 𝓛.H (Whole 𝓛) (tables 𝓤 𝓛.H 𝓜 𝓡 γ).C (tables 𝓤 𝓛.H 𝓜 𝓡 γ).Λ k code closed
      (meets 𝓛 (tables_of 𝓤 𝓛.H 𝓜 (tables 𝓤 𝓛.H 𝓜 𝓡 γ)) (cited 𝓤 𝓛.H (Reads 𝓛) 𝓜 𝓡 γ P.h r at-h known-h) (cited 𝓤 𝓛.H (Turns 𝓛) 𝓜 𝓡 γ P.g s at_g known-g))
