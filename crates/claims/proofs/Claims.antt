-- The terms of the three demands.
use mathlib.Core.Path.{◌≡◌, refl, sym, ◌∙◌, ap}
use mathlib.Core.Bool.{Bool, true, false, cond, ◌&&◌, ◌||◌}
use mathlib.Core.List.{List, [], ◌∷◌}
use mathlib.Core.Logic.{◌≢◌}
use Prim.Native.Nat.{ℕ, zero, suc, ◌+◌, ◌-◌, ◌*◌, ◌/◌, ◌≤◌, ◌<◌, min, zero-le}
use native.Mathlib.Nat.{add-zero}
use native.Mathlib.Decide.{ℕ_discrete}
use native.Mathlib.Omega.{arith}
use mir.Facts.{and_yes}
use lib.Dec.{T, eqb, leb, ltb, leb→le}
use lib.IntN.{ℤ}
use lib.ListN.{length, get_or, take, drop}
use lib.Seq.{length-sets}
use borrow.Author.Tests.{ne_eqb, ltb-false}
use Rattle.definition.specs.declared.Operation.{Operation}
use Rattle.definition.specs.declared.Operation.TheVariants.{Luma, User, Pretrained, Chroma}
use Rattle.definition.specs.declared.Given.{Given}
use Rattle.definition.specs.Rows.{tab}
use Rattle.definition.specs.Blocks.{side, mask_at, masked, pieces_of}
use Rattle.definition.specs.Units.{Lent, final_sample}
use Rattle.definition.specs.Planes.{unit_count, plane_after, plane_restored}
use Rattle.definition.specs.Calls.{Call}
use Rattle.definition.specs.Refusals.{Check, ◌⇒◌, lowest, sizes_of, unit_checks, unit_status, open_status}
use Rattle.laws.proofs.Ints.{never}
use Rattle.laws.proofs.Lists.{length_tab, sets_other}
use Rattle.laws.proofs.Passes.{refused, none-answered}
use Rattle.plane_laws.proofs.Order.{UnitsDone}
use Rattle.plane_laws.proofs.Walk.{all_counted}
use Rattle.plane_laws.proofs.Answers.{PlaneFine, plane_fine, is-after, all-restored}
use Rattle.history.specs.History.{Out, World}
use Rattle.history.specs.Advance.{steps, pick_out, advanced, todo}
use Rattle.units.specs.declared.State.{State}
use Rattle.units.specs.declared.Advanced.{Advanced}
use Rattle.units.specs.Openings.{no_state, state_unless}
use Rattle.units.specs.Step.{start_of, sample_of, state_of, plane_of, step_of}
use Rattle.units.specs.Advances.{bad_state, status_by, status_of, units, answer, Answered}
use Rattle.units.proofs.AllHistories.{histories}
use Rattle.whole.specs.declared.Restored.{Restored}
use Rattle.plane.specs.Plane.{PlaneRestored}
use Rattle.definition.specs.declared.Refusal.{Refusal}
use Rattle.definition.specs.declared.Refusal.TheVariants.{Outside, State as BadState, Text}
use Rattle.definition.specs.Answers.{status_from}
use Rattle.definition.specs.Units.{number_of, operation_of}
use Rattle.definition.specs.StateText.{state_text, lines_in}
use Rattle.std.specs.Prelude.{Option, Some, None, Result, Ok, Err}
use Rattle.laws.proofs.Answers.{number_some}
use Rattle.card_laws.proofs.Planes.{front, behind}
use Rattle.history.specs.History.{run, finished, ◌▷◌, put_away}
use Rattle.units.specs.declared.Opened.{Opened}
use Rattle.units.specs.declared.Written.{Written}
use Rattle.units.specs.Openings.{opened_of, open_state}
use Rattle.units.specs.Histories.{unit}
use Rattle.units.specs.Texts.{lines_of, misshapen, shaped_as, text_by, text_of, fitting, length_from, put_from, state_found, state_if, state_by, state_in, back_by, back}
use Rattle.units.proofs.RoundTrip.{back-again, text-again, text-short}
use Rattle.claims.specs.Claims.{Works, WholePlane, ComesBack, Demand1, Demand2, Demand3, Texts}

-- REFUSED
zeros-state : (status : ℕ) (s : State) → status ≢ 0 → state_unless status s ≡ no_state
zeros-state zero s h = absurd (h refl)
zeros-state (suc n) s h = refl

picked : {S : Type 0} (status : ℕ) (a b : Out S) → status ≢ 0 → pick_out status a b ≡ b
picked zero a b h = absurd (h refl)
picked (suc n) a b h = refl

unchanged : (c : Call) (s : State) (p : List ℕ) → status_of c s p ≢ 0 → answer c s p ≡ record { status = status_of c s p; pieces = 0; state = s; plane = p }
unfolding answer advanced
unchanged c s p h = picked (status_of c s p) _ _ h

-- no number of the checks is over m
up_to : ℕ → List Check → Bool
up_to m [] = true
up_to m ((b ⇒ n) ∷ cs) = leb n m && up_to m cs

lowest_most : (m : ℕ) (cs : List Check) → T (up_to m cs) → lowest cs ≤ m
unfolding up_to
lowest_most m [] t = zero-le
lowest_most m ((true ⇒ n) ∷ cs) t = leb→le n m (and_yes (leb n m) (up_to m cs) t).0
lowest_most m ((false ⇒ n) ∷ cs) t = lowest_most m cs (and_yes (leb n m) (up_to m cs) t).1

table_most : (op : Operation) (n : Given) (l : Lent) (p : List ℕ) → open_status op n l p ≤ 11
unfolding unit_status up_to
table_most op n l p = lowest_most 11 (unit_checks op n (sizes_of op l p)) tt

state_most : (c : Call) (s : State) (p : List ℕ) → status_of c s p ≢ 13 → status_of c s p ≤ 11
unfolding status_by
state_most c s p h = go (bad_state c.op s _) _ (table_most c.op s.given c.lent p) h
  where
    go : (bad : Bool) (k : ℕ) → k ≤ 11 → cond bad 13 k ≢ 13 → cond bad 13 k ≤ 11
    go true k e h = absurd (h refl)
    go false k e h = e

-- NOT REFUSED: n steps of rows, of any state
record Walked (n : ℕ) (s : State) (p : List ℕ) (x : World State) : Type 0 where
  done : x.state.done ≡ s.done + n
  op : x.state.op ≡ s.op
  given : x.state.given ≡ s.given
  size : length x.plane ≡ length p
  other : (i : ℕ) → ((y c : ℕ) → s.done ≤ y → y < s.done + n → c < s.given.w → i ≢ s.given.off + y * s.given.stride + c) → get_or x.plane i 0 ≡ get_or p i 0

module _ (op : Operation) (l : Lent) (s : State) (p : List ℕ) where
  row_other : (i : ℕ) → ((c : ℕ) → c < s.given.w → i ≢ start_of op l s p + c) → get_or (plane_of op l s p) i 0 ≡ get_or p i 0
  unfolding plane_of
  row_other i h = sets_other p (tab s.given.w (sample_of op l s p)) (start_of op l s p) s.given.w i (length_tab s.given.w (sample_of op l s p)) h

  plane-size : length (plane_of op l s p) ≡ length p
  unfolding plane_of
  plane-size = length-sets p (start_of op l s p) (tab s.given.w (sample_of op l s p))

walked : (op : Operation) (l : Lent) (n : ℕ) (s : State) (p : List ℕ) → Walked n s p (steps (step_of op l) n (record { state = s; plane = p }))
unfolding state_of
walked op l zero s p = record { done = sym (add-zero s.done); op = refl; given = refl; size = refl; other = λ i h. refl }
walked op l (suc n) s p =
    let x : World State = steps (step_of op l) n (record { state = s; plane = p }) in
    let w : Walked n s p x = walked op l n s p in
    record {
      done = omega (arith, w.done);
      op = w.op;
      given = w.given;
      size = plane-size op l x.state x.plane ∙ w.size;
      other = λ i h.
          row_other op l x.state x.plane i
          (λ c hc. rw (w.given, w.done) (h (s.done + n) c (omega arith) (omega arith) (rw w.given at hc))) ∙
          w.other i (λ y c lo hi hc. h y c lo (omega arith) hc);
    }

served : (c : Call) (s : State) (p : List ℕ) → status_of c s p ≡ 0 →
    answer c s p ≡
    record {
      status = 0;
      pieces = pieces_of c.lent.skip (s.given.w / side) s.done (todo units c s);
      state = (steps (step_of c.op c.lent) (todo units c s) (record { state = s; plane = p })).state;
      plane = (steps (step_of c.op c.lent) (todo units c s) (record { state = s; plane = p })).plane;
    }
unfolding answer advanced
served c s p z = rw z

works : (c : Call) (s : State) (p q : List ℕ) (r : Advanced) → Answered r q (answer c s p) → status_of c s p ≡ 0 → Works (todo units c s) c s p q r
works c s p q r a z =
    let b : Answered r q _ = rw (served c s p z) at a in
    let w = walked c.op c.lent (todo units c s) s p in
    record {
      status = b.status;
      pieces = b.pieces;
      done = rw b.state w.done;
      same = (rw b.state w.op, rw b.state w.given);
      size = rw b.plane w.size;
      other = λ i h. rw b.plane (w.other i h);
    }

-- nothing to do
none_left : (count h done : ℕ) → (eqb count 0 || eqb done h) ≡ true → min count (h - done) ≡ 0
none_left zero h done e = omega arith
none_left (suc count) h done e =
    elim (ℕ_discrete done h) [
      | yes d ↦ omega arith
      | no ne ↦ absurd (never (rw (ne_eqb (suc count) 0 (omega arith), ne_eqb done h ne) at e))
    ]

idle : (c : Call) (s : State) (p : List ℕ) → status_of c s p ≡ 0 → (eqb c.count 0 || eqb s.done s.given.h) ≡ true →
    answer c s p ≡ record { status = 0; pieces = 0; state = s; plane = p }
unfolding pieces_of
idle c s p z e = rw (served c s p z, none_left c.count s.given.h s.done e)

-- A WHOLE PLANE
module _ (r : Restored) (w h u count : ℕ) (filter : List ℤ) (skip s s' p q : List ℕ) (a : PlaneRestored r w h u count filter skip s s' p q) where
  plane-refused : r.status ≢ 0 → (r.pieces ≡ 0) × (q ≡ p) × (s' ≡ s)
  plane-refused z = (a.pieces ∙ sym (none-answered r.status _ z), a.plane ∙ sym (refused r.status p _ z), a.kept z)

  is_fine : r.status ≡ 0 → PlaneFine w h u (length p) (length skip) (length filter) (length s)
  is_fine z = plane_fine w h u (length p) (length skip) (length filter) (length s) (sym a.status ∙ z)

  is-plane_after : r.status ≡ 0 → q ≡ plane_after w h u count p skip filter
  is-plane_after z = rw z at a.plane

  units-done : r.status ≡ 0 → UnitsDone w h u count p skip filter q
  units-done z = let f = is_fine z in rw (is-plane_after z) (is-after w h p skip filter f.grid.some_w f.room u count)

  plane-behind : (i : ℕ) → h * w ≤ i → get_or q i 0 ≡ get_or p i 0
  plane-behind i l =
      elim (ℕ_discrete r.status 0) [
        | yes z ↦ (units-done z).behind i l
        | no z ↦ ap (λ (t : List ℕ). get_or t i 0) (plane-refused z).1
      ]

  plane-all : r.status ≡ 0 → unit_count w h u ≤ count → q ≡ plane_restored w h p skip filter
  plane-all z l = let f = is_fine z in is-plane_after z ∙ all-restored w h p skip filter f.grid.some_w f.room u count (all_counted w h u count f.grid.some_u l)

  whole-plane : WholePlane r w h u count filter skip p q
  whole-plane = record { here = λ z. (units-done z).here; behind = plane-behind; every_size = plane-all }

-- A STATE PUT AWAY AND TAKEN BACK
-- a state that has no text is refused with 13, and so is a text that is of the form and gives no state
text_or : (P : Result (List ℕ) Refusal → Type 0) → ((t : List ℕ) → P (Ok t)) → P (Err BadState) → (s : State) → P (text_of s)
unfolding text_of
text_or P some none s = go (operation_of s.op)
  where
    either : (b : Bool) (op : Operation) → P (text_by (cond b (Err BadState) (Ok op)) s)
    either true op = none
    either false op = some (state_text (lines_of op s))

    go : (o : Option Operation) → P (text_by (shaped_as o s) s)
    go (Some op) = either (misshapen op s) op
    go None = none

state_or : (P : Result State Refusal → Type 0) → ((s : State) → P (Ok s)) → P (Err BadState) → P (Err Text) → (t : List ℕ) → P (state_in t)
unfolding state_in
state_or P some none not t = go (state_found (lines_in t))
  where
    either : (b : Bool) (op : Operation) (s : State) → P (state_if (cond b (Err BadState) (Ok op)) s)
    either true op s = none
    either false op s = some s

    shape : (o : Option Operation) (s : State) → P (state_if (shaped_as o s) s)
    shape (Some op) s = either (misshapen op s) op s
    shape None s = none

    go : (x : Option State) → P (state_by x)
    go (Some s) = shape (operation_of s.op) s
    go None = not

write_number : (s : State) (room : ℕ) → status_from (fitting room (text_of s)) ≢ 0 → status_from (fitting room (text_of s)) ≢ 5 → status_from (fitting room (text_of s)) ≡ 13
write_number s room = text_or (λ x. status_from (fitting room x) ≢ 0 → status_from (fitting room x) ≢ 5 → status_from (fitting room x) ≡ 13) (λ t. fits (ltb room (length t)) t) (λ h k. refl) s
  where
    fits : (b : Bool) (t : List ℕ) → status_from (cond b (Err Outside) (Ok t)) ≢ 0 → status_from (cond b (Err Outside) (Ok t)) ≢ 5 → status_from (cond b (Err Outside) (Ok t)) ≡ 13
    fits true t h k = absurd (k refl)
    fits false t h k = absurd (h refl)

read_number : (t : List ℕ) → status_from (state_in t) ≢ 0 → status_from (state_in t) ≢ 17 → status_from (state_in t) ≡ 13
read_number = state_or (λ x. status_from x ≢ 0 → status_from x ≢ 17 → status_from x ≡ 13) (λ s h k. absurd (h refl)) (λ h k. refl) (λ h k. absurd (k refl))

-- what a writing leaves, by what there was to write
pub record Wrote (r : Written) (x : Result (List ℕ) Refusal) (p q : List ℕ) : Type 0 where
  refused : r.status ≢ 0 → (r.len ≡ 0) × (q ≡ p)
  stands : r.status ≡ 0 → (x ≡ Ok (take r.len q)) × (r.len ≤ length p) × (drop r.len q ≡ drop r.len p)

wrote : (r : Written) (x : Result (List ℕ) Refusal) (p q : List ℕ) → r.status ≡ status_from (fitting (length p) x) → r.len ≡ length_from (fitting (length p) x) →
    q ≡ put_from (fitting (length p) x) p → Wrote r x p q
wrote r (Err e) p q es el eq = record { refused = λ h. (el, eq); stands = λ h. absurd (number_some e (sym es ∙ h)) }
wrote r (Ok t) p q es el eq = go (ltb (length p) (length t)) refl es el eq
  where
    go : (b : Bool) → ltb (length p) (length t) ≡ b → r.status ≡ status_from (cond b (Err Outside) (Ok t)) → r.len ≡ length_from (cond b (Err Outside) (Ok t)) →
        q ≡ put_from (cond b (Err Outside) (Ok t)) p → Wrote r (Ok t) p q
    go true f es el eq = record { refused = λ h. (el, eq); stands = λ h. absurd (some-five (sym es ∙ h)) }
      where
        some-five : ◌≡◌ {A = ℕ} 5 0 → ⊥
        some-five e = omega (arith, e)
    go false f es el eq =
        let l : length t ≤ length p = ltb-false (length p) (length t) f in
        record {
          refused = λ h. absurd (h es);
          stands = λ h. rw (el, eq) (ap Ok (sym (front t (drop (length t) p) (length t) refl)), l, behind t (drop (length t) p) (length t) refl);
        }

read_state : (r : Opened) (t : List ℕ) → r ≡ opened_of (state_in t) →
    (r.status ≡ status_from (state_in t)) × (r.status ≢ 0 → r.state ≡ no_state) × (r.status ≡ 0 → state_in t ≡ Ok r.state)
read_state r t e = rw e (go (state_in t))
  where
    go : (x : Result State Refusal) → ((opened_of x).status ≡ status_from x) × ((opened_of x).status ≢ 0 → (opened_of x).state ≡ no_state) × ((opened_of x).status ≡ 0 → x ≡ Ok (opened_of x).state)
    go (Ok s) = (refl, (λ h. absurd (h refl)), (λ h. refl))
    go (Err f) = (refl, (λ h. refl), (λ h. absurd (number_some f h)))

-- a state of an operation that is taken back as it was put away comes back
same_op : (c : Call) (s : State) (p : List ℕ) → (answer c s p).state.op ≡ s.op
same_op c s p =
    elim (ℕ_discrete (status_of c s p) 0) [
      | yes z ↦ rw (served c s p z) (walked c.op c.lent (todo units c s) s p).op
      | no z ↦ rw (unchanged c s p z)
    ]

comes_back : (op : Operation) (s : State) → s.op ≡ number_of op → back s ≡ s → ComesBack s
unfolding back no_state
comes_back op s o e = go (text_of s) refl e
  where
    some_op : (k : Operation) → number_of k ≢ 0
    some_op Luma h = omega (arith, h)
    some_op User h = omega (arith, h)
    some_op Pretrained h = omega (arith, h)
    some_op Chroma h = omega (arith, h)

    none : no_state ≡ s → ⊥
    none h = some_op op (sym o ∙ sym (ap (λ (x : State). x.op) h))

    read : (t : List ℕ) (y : Result State Refusal) → text_of s ≡ Ok t → state_in t ≡ y → (opened_of y).state ≡ s → ComesBack s
    read t (Ok x) f g h = record { text = t; written = f; read = g ∙ ap Ok h }
    read t (Err r) f g h = absurd (none h)

    go : (x : Result (List ℕ) Refusal) → text_of s ≡ x → back_by x ≡ s → ComesBack s
    go (Ok t) f h = read t (state_in t) f refl h
    go (Err r) f h = absurd (none h)

pub demand_1 : Demand1
demand_1 =
    record {
      opens = λ op r n l p b. (b.status, λ h. b.state ∙ zeros-state (open_status op n l p) _ h);
      refuses = λ c s p q r a h. let b : Answered r q _ = rw (unchanged c s p h) at a in (b.status, b.pieces, b.state, b.plane);
      works = works;
      idles = λ c s p q r a z e. let b : Answered r q _ = rw (idle c s p z e) at a in (b.status, b.pieces, b.state, b.plane);
      whole = λ op r n l p q w. (w.status, w.none);
      planes = λ r w h u count filter skip s s' p q a. (a.status, plane-refused r w h u count filter skip s s' p q a);
      numbers = table_most;
      state_numbers = state_most;
      writes = λ r s p q w.
          let x = wrote r (text_of s) p q w.status w.len w.out in
          (w.status, x.refused, λ h. let y = x.stands h in (y.0, y.1, y.2, w.in_fields h));
      reads = read_state;
      write_numbers = write_number;
      read_numbers = read_number;
    }

masks : (op : Operation) (n : Given) (l : Lent) (p : List ℕ) (y x : ℕ) → masked (mask_at l.skip y) (x / side) ≡ true →
    final_sample n l p op y x ≡ get_or p (n.off + y * n.stride + x) 0
unfolding final_sample
masks op n l p y x m = rw m

pub demand_2 : Demand2
demand_2 =
    record {
      restores = λ op r n l p q w z. (w.status ∙ z, w.pieces z, w.plane z);
      masks = masks;
      planes = whole-plane;
    }

pub demand_3 : Demand3
demand_3 = histories

pub texts : Texts
unfolding open_state
texts =
    record {
      read_after_write = back-again;
      write_after_read = text-again;
      short = text-short;
      handed_out = λ op n l p z t H v.
          let u = unit op n l p in
          let before = histories op n l p z H v in
          let after = histories op n l p z (H ▷ put_away) (v, t) in
          let o : (run u H).state.op ≡ number_of op = ap (λ (s : State). s.op) (before.state tt refl) ∙ same_op (u.own tt (finished u H)) u.first u.plane in
          comes_back op (run u H).state o (after.state tt refl ∙ sym (before.state tt refl));
    }
