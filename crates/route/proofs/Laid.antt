-- In every table of a call that is not refused the rows stand one after the other, each as wide as its table says, and every byte behind the last is zero:
-- rows of one width that are placed over zeros and have room are their bytes one after the other.
-- Assumes nothing.
use mathlib.Core.Path.{◌≡◌, refl, sym, ap, subst, ◌∙◌}
use mathlib.Core.List.{List, [], ◌++◌, map}
use mathlib.Core.Option.{some}
use Prim.Native.Nat.{ℕ, zero, suc, ◌*◌, ◌-◌, ◌/◌, ◌≤◌}
use native.Mathlib.Nat.{le_trans, zero-mul, zero-add, mul-le-mul_right, div-mul-le_self}
use native.Mathlib.Omega.{arith}
use lib.ListN.{length, get_or, drop, length-append, length-map, length-replicate}
use lib.Seq.{sets-eq, drop_at}
use Rattle.wire.specs.Zeros.{zeros}
use Rattle.pack.specs.Sections.{section_of}
use Rattle.pack.specs.View.{view_of}
use Rattle.pack.specs.Flatten.{flatten}
use Rattle.pack.proofs.Rows.{row_at}
use Rattle.evidence.specs.MintTable.{MintAnswer}
use Rattle.mints.specs.Bytes.{mint_row}
use Rattle.wire.specs.Tab.{tab}
use Rattle.route.specs.Widths.{mint_width, invocation_width, transfer_width, leg_width, action_width}
use Rattle.route.specs.declared.Answer.{Answer}
use Rattle.route.specs.Lay.{rows_of, written}
use Rattle.route.specs.Transfers.{transfer_rows}
use Rattle.route.specs.Legs.{leg_rows}
use Rattle.route.specs.Actions.{action_rows}
use Rattle.route.specs.Tables.{positions_of, instructions_of, invocation_at, tables_with}
use Rattle.route.specs.Route.{Lent, lent, Routed, refused, accepted, route, Leaves}
use Rattle.route.specs.Order.{mints_in, Succeeds}
use Rattle.route.specs.Laid.{Laid, AllLaid}
use Rattle.route.proofs.Widths.{invocations-rowed, transfers-rowed, legs-rowed, natives-rowed}
use Rattle.route.proofs.Fitting.{Roomy}
use Rattle.route.proofs.Refusals.{numbered}
use Rattle.route.proofs.Ways.{tables_by, Ways, early, crowded, later, good, tables-by, ways}
use Rattle.route.proofs.OrderTable.{Rowed, flat, flat-length, placed-flat, rows_written, mint-rowed}
use Rattle.route.proofs.OrderMints.{made, sized, rows-room}
use Rattle.route.proofs.Success.{sound}

-- zeros without the first k
zeros-behind : (k n : ℕ) → drop k (zeros n) ≡ zeros (n - k)
zeros-behind zero n =
    let e : n ≡ n - 0 = omega arith in
    ap zeros e
zeros-behind (suc k) zero =
    let e : 0 - suc k ≡ 0 = omega arith in
    ap zeros (sym e)
zeros-behind (suc k) (suc n) =
    let e : n - k ≡ suc n - suc k = omega arith in
    zeros-behind k n ∙ ap zeros e

-- rows of w bytes for which there is room, written over zeros: they stand one after the other, and zeros behind them
module _ (w : ℕ) (l : List (List ℕ)) (n : ℕ) (h : Rowed w l) (whole : length l ≤ n / w) where
  room : length l * w ≤ n
  room = le_trans (mul-le-mul_right w whole) (div-mul-le_self n w)

  pub written_is : written w l n ≡ flat l ++ zeros (n - length l * w)
  written_is =
      placed-flat w 0 l (zeros n) h
      ∙ rw (
        zero-mul,
        sets-eq (flat l) (zeros n) 0 (rw (zero-add, flat-length w l h, length-replicate) room),
        zero-add,
        flat-length w l h,
        zeros-behind (length l * w) n,
      )

  pub laid : Laid w l (length l) n (written w l n)
  laid =
      record {
        count = refl;
        each = λ r i. h.each r i;
        room = room;
        long = rw (written_is, length-append, flat-length w l h, length-replicate) (omega (arith, room));
        at = λ k lt. sym (row_at w (length l) (written w l n) k [] lt) ∙ ap (λ (x : List (List ℕ)). get_or x k []) (rows_written w l n h room);
        behind = rw written_is (drop_at (flat l) (zeros (n - length l * w)) (length l * w) (flat-length w l h));
      }

module _ (names p : List ℕ) (l : Lent) where
  accepted-laid : (x : MintAnswer) → mints_in p ≡ some x → Roomy l x.room (accepted (tables_by names p x) l).answer → AllLaid names p l (accepted (tables_by names p x) l)
  unfolding accepted tables_with
  accepted-laid x q f =
      let y = made p q in
      let s = sound p q in
      let ks = section_of p 0 in
      let pools = (view_of p).pools in
      let ps = positions_of (flatten (view_of p)) in
      let xs = instructions_of (flatten (view_of p)) in
      let room : length (map mint_row x.rows) ≤ l.mints / mint_width = rw (length-map x.rows mint_row) (le_trans (rows-room y) f.mints) in
      record {
        tables = tables_by names p x;
        are = tables-by names p l q;
        mints = laid mint_width (map mint_row x.rows) l.mints (mint-rowed x.rows (sized p y)) room;
        invocations = laid invocation_width (tab (invocation_at names ks pools x.rows ps xs) 0 (length xs)) l.invocations (invocations-rowed names ks pools x.rows ps xs) f.invocations;
        transfers = laid transfer_width (rows_of (transfer_rows ks x.rows) 0 xs) l.transfers (transfers-rowed ks s xs) f.transfers;
        legs = laid leg_width (rows_of (leg_rows names ks pools x.rows) 0 xs) l.legs (legs-rowed ks s names pools xs) f.legs;
        natives = laid action_width (rows_of (action_rows ks x.rows) 0 xs) l.natives (natives-rowed ks s xs) f.natives;
      }

  laid_by : {r : Routed} → Ways names p l r → Succeeds r → AllLaid names p l r
  unfolding refused
  laid_by (early n k i) e = absurd (numbered i.listed e)
  laid_by (crowded x q h) e = absurd (omega arith)
  laid_by (later x k q h f) e = absurd (omega arith)
  laid_by (good x q s f) e = accepted-laid x q f

  -- so it is in every call that is not refused
  pub all_laid : Succeeds (route names p l) → AllLaid names p l (route names p l)
  all_laid = laid_by (ways names p l)

-- and in what the contract promises of the lent tables
pub leaves-laid : {names p t0 t1 t2 t3 t4 : List ℕ} {r : Answer} {o0 o1 o2 o3 o4 : List ℕ} → Leaves names p t0 t1 t2 t3 t4 r o0 o1 o2 o3 o4 → r.number ≡ 0
    → AllLaid names p (lent t0 t1 t2 t3 t4) (record { answer = r; mints = o0; invocations = o1; transfers = o2; legs = o3; natives = o4 })
leaves-laid {names} {p} {t0} {t1} {t2} {t3} {t4} {r} {o0} {o1} {o2} {o3} {o4} x h =
    let l = lent t0 t1 t2 t3 t4 in
    let e : route names p l ≡ record { answer = r; mints = o0; invocations = o1; transfers = o2; legs = o3; natives = o4 } = rw (x.answer, x.mints, x.invocations, x.transfers, x.legs, x.natives) in
    subst (AllLaid names p l) e (all_laid names p l (ap (λ (y : Routed). y.answer.number) e ∙ h))
