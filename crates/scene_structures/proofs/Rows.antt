-- What a call's own events are, put in a row.
use Rattle.std.proofs.Common.{List, All}
use Rattle.scene_structures.proofs.Prelude
use Prelude.{All-weaker, Cell, ClearMember, Compare, Count, DeskNow, Does, Event, Expired, Finish}
use Prelude.{IsParting, Join, KeepsDesks, Leave, Load, Lock, Make, PutsOnly, Read, Same, Share}
use Prelude.{Shelve, Split, Swap, Unshelve, Visit, WeakLeave, WeakShare}

module _ {V : Type 0} where
  pub parting_puts : (at : Cell → Type 0) (x : Event V) → IsParting x → PutsOnly at x
  parting_puts at (Leave h last) p = tt
  parting_puts at (WeakLeave h vacant) p = tt
  parting_puts at (ClearMember o m h) p = tt
  parting_puts at (Finish o vacant value) p = tt
  parting_puts at x p = absurd p

  pub partings_put : (at : Cell → Type 0) (xs : List (Event V)) → All IsParting xs → All (PutsOnly at) xs
  partings_put at xs all = All-weaker IsParting (PutsOnly at) (parting_puts at) xs all

  pub puts_keep : (at : Cell → Type 0) (x : Event V) → PutsOnly at x → KeepsDesks x
  puts_keep at (Split to n hs bs) p = p
  puts_keep at (Join other) p = p
  puts_keep at (Swap c new old) p = tt
  puts_keep at (Compare c ex new h b w) p = tt
  puts_keep at (Make b enabled null fields value) p = tt
  puts_keep at (Leave h last) p = tt
  puts_keep at (ClearMember q m h) p = tt
  puts_keep at (Finish q v y) p = tt
  puts_keep at (Share h q) p = tt
  puts_keep at (Count h k) p = tt
  puts_keep at (Expired h y) p = tt
  puts_keep at (Read h k) p = tt
  puts_keep at (Same c h so) p = tt
  puts_keep at (WeakShare q y) p = tt
  puts_keep at (WeakLeave h v) p = tt
  puts_keep at (Lock h got) p = tt
  puts_keep at (Load c got) p = tt
  puts_keep at (Visit h y w) p = tt
  puts_keep at (Shelve c) p = tt
  puts_keep at (Unshelve c) p = tt

  pub does_wider : (is like : Event V → Type 0) (d e : DeskNow V) → ((x : Event V) → is x → like x) → Does is d e → Does like d e
  does_wider is like d e wider does = record { own = does.own; goes = does.goes; all = All-weaker is like wider does.own does.all }
