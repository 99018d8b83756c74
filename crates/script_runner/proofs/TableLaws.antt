-- Which calls of a table are which acts of a thread: the laws as they are stated.
use Rattle.std.proofs.Common.{◌≡◌, ℕ, slice_set, sym, refl, ap, inl, inr, arith}
use Rattle.script_runner.proofs.Prelude.{IsHand, IsSeated, other, plain, shown_slots, slot_pointer}
use Rattle.script_runner.proofs.Prelude.{TableNow}
use Rattle.script_runner.proofs.Giving as giving
use Rattle.script_runner.proofs.Looking as looking
use Rattle.script_runner.proofs.Putting as putting
use Rattle.script_runner.proofs.Seating.{shown_many}
use Rattle.script_runner.specs.TableCalls.{AlikeIn, CountsIn, EmptiesIn, ExpiresIn, MarksOrder}
use Rattle.script_runner.specs.TableCalls.{MovesIn, PlacesIn, PutsIdle, PutsIn, ReadsIn, ReadsNot}
use Rattle.script_runner.specs.TableCalls.{ResetsIn, ThisIn, ThisNot, WeakThisIn}
use Rattle.step_threads.specs.Rows as rows
use Rattle.step_threads.specs.declared.programs.act.Act.TheVariants as act

module _ {V : Type 0} where
  pub as_seated : (m hand : ℕ) (t : TableNow V) → IsHand m hand t → IsSeated m hand t
  as_seated m hand t is = record { fits = is.fits; stands = is.stands; many = is.many; last = is.last }

  pub puts : PutsIn V
  puts worth m i hand taken t u is lt v = putting.puts worth m i hand t u is lt taken v

  pub puts_idle : PutsIdle V
  puts_idle m i hand t u is lt v free = putting.puts_idle m i hand t u is lt v free

  pub empties : EmptiesIn V
  empties worth m i taken t u fits lt (inl c) = (
    putting.empties worth m i taken t u fits lt (act.Leave i) refl (λ last left. refl) c,
    putting.empties worth m i taken t u fits lt (act.Clear i) refl (λ last left. refl) c,
  )
  empties worth m i taken t u fits lt (inr c) = (
    putting.empties_weakly worth m i taken t u fits lt (act.Leave i) refl (λ last left. refl) c,
    putting.empties_weakly worth m i taken t u fits lt (act.Clear i) refl (λ last left. refl) c,
  )

  pub resets : ResetsIn V
  resets worth m hand i taken t u is at gone c =
      let o : i ≡ other (shown_slots m t.slots) = let many = shown_many m t.slots is.many in omega (arith, many, at) in
      putting.resets worth m i taken t u is.fits (omega (arith, at)) act.Drop gone o
      (λ last left. ap (λ k. rows.leaving (slice_set (shown_slots m t.slots) k plain, taken) (slot_pointer (shown_slots m t.slots) k) last left) (sym o)) c

  pub moves : MovesIn V
  moves worth m i hand taken t between u is lt v (inl c) = putting.moves worth m i hand t u (as_seated m hand t is) lt between taken is.vacant v c
  moves worth m i hand taken t between u is lt v (inr c) = putting.moves_weakly worth m i hand t u (as_seated m hand t is) lt between taken is.vacant v c

  pub counts : CountsIn V
  counts worth m i hand taken t u is lt n c = looking.counts worth m i hand taken t u is lt n c

  pub expires : ExpiresIn V
  expires worth m i hand taken t u is lt so c = looking.expires worth m i hand taken t u is lt so c

  pub reads : ReadsIn V
  reads worth m i hand taken t u is lt field c = looking.reads worth m i hand taken t u is lt field c

  pub reads_not : ReadsNot V
  reads_not worth m i hand taken t u is lt h why at away = looking.reads_not worth m i hand taken t is lt h why at away

  pub shares_this : ThisIn V
  shares_this worth m i hand taken t u is lt c = giving.shares_this worth m i hand taken t u is lt c

  pub shares_this_weakly : WeakThisIn V
  shares_this_weakly worth m i hand taken t u is lt c = giving.shares_this_weakly worth m i hand taken t u is lt c

  pub gives_not : ThisNot V
  gives_not worth m i hand taken t u is lt k why c unlike = looking.gives_not worth m i hand taken t is lt c.0 k why c.1 c.2 unlike

  pub places : PlacesIn V
  places worth m i hand taken t u is lt p c = giving.places worth m i i hand taken t is lt lt p c

  pub alike : AlikeIn V
  alike worth m i hand taken t u is lt j so less c = giving.alike worth m i j hand taken t is lt less so c

  pub in_order : MarksOrder V
  in_order worth m i hand taken t u is lt j so less c = giving.in_order worth m i j hand taken t is lt less so c
