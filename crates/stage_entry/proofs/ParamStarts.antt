-- Where the parameters begin, by each test on the way.
-- Assumes nothing.
use mathlib.Core.Path.{◌≡◌, ap}
use mathlib.Core.List.{List}
use mathlib.Core.Option.{none, some}
use Prim.Native.Nat.{ℕ, ◌+◌, ◌<◌, ◌≤◌}
use native.Mathlib.Omega.{arith}
use borrow.Author.Tests.{lt-ltb, le-ltb, eq-eqb, ne_eqb}
use Rattle.model.specs.Sheet.{param_count, param_slots, recv_slots, is_closure}
use Rattle.model.specs.Parameters.{transfer_slots, implicit_param_slots, no_params, fills_all, fills_closure, param_start_by, param_start}

-- p parameters that take t slots, l parameter slots, a receiver of r and a closure of c
module _ (sheet : List ℕ) {p t l r c : ℕ} (ep : p ≡ param_count sheet) (et : t ≡ transfer_slots sheet) (el : l ≡ param_slots sheet) (er : r ≡ recv_slots sheet) (ec : c ≡ is_closure sheet) where
  pub no_params_lem : p ≡ 0 → none ≡ param_start sheet
  unfolding param_start param_start_by no_params
  no_params_lem h = rw (← ep, eq-eqb p 0 h)

  module _ (some-params : p ≡ 0 → ⊥) where
    pub too_wide : 65535 < t → none ≡ param_start sheet
    unfolding param_start param_start_by no_params
    too_wide h = rw (← ep, ← et, ne_eqb p 0 some-params, lt-ltb 65535 t h)

    module _ (narrow : t ≤ 65535) where
      pub too_many : 65535 < r + c → none ≡ param_start sheet
      unfolding param_start param_start_by no_params implicit_param_slots
      too_many h = rw (← ep, ← et, ← er, ← ec, ne_eqb p 0 some-params, le-ltb 65535 t narrow, lt-ltb 65535 (r + c) h)

      module _ (few : r + c ≤ 65535) where
        pub behind_all : l ≡ r + c + t → some (r + c) ≡ param_start sheet
        unfolding param_start param_start_by no_params implicit_param_slots fills_all
        behind_all h = rw (← ep, ← et, ← er, ← ec, ← el, ne_eqb p 0 some-params, le-ltb 65535 t narrow, le-ltb 65535 (r + c) few, eq-eqb l (r + c + t) h) (ap some (omega arith))

        module _ (other : l ≡ r + c + t → ⊥) where
          pub no_receiver : r ≡ 0 → none ≡ param_start sheet
          unfolding param_start param_start_by no_params implicit_param_slots fills_all fills_closure
          no_receiver h = rw (← ep, ← et, ← er, ← ec, ← el, ne_eqb p 0 some-params, le-ltb 65535 t narrow, le-ltb 65535 (r + c) few, ne_eqb l (r + c + t) other, le-ltb 0 r (omega arith))

          module _ (receiver : r ≡ 0 → ⊥) where
            pub behind_closure : l ≡ c + t → some c ≡ param_start sheet
            unfolding param_start param_start_by no_params implicit_param_slots fills_all fills_closure
            behind_closure h = rw (← ep, ← et, ← er, ← ec, ← el, ne_eqb p 0 some-params, le-ltb 65535 t narrow, le-ltb 65535 (r + c) few, ne_eqb l (r + c + t) other, lt-ltb 0 r (omega (arith, receiver)), eq-eqb l (c + t) h) (ap some ec)

            pub nowhere : (l ≡ c + t → ⊥) → none ≡ param_start sheet
            unfolding param_start param_start_by no_params implicit_param_slots fills_all fills_closure
            nowhere h = rw (← ep, ← et, ← er, ← ec, ← el, ne_eqb p 0 some-params, le-ltb 65535 t narrow, le-ltb 65535 (r + c) few, ne_eqb l (r + c + t) other, lt-ltb 0 r (omega (arith, receiver)), ne_eqb l (c + t) h)
