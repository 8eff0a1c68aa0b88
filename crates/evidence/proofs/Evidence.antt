-- Evidence that says the same of an account leaves it free, with one mint, or with two, because each of these is said by members alone. Assumes nothing.
use Rattle.ids.specs.Keys.{Key, zero_key}
use Rattle.evidence.specs.Table.{Table, Has, Lacks}
use Rattle.evidence.specs.Evidence.{Clash, Evidence, Free, One, Says}

-- what the table says of a is what the evidence says
pub data NotedAs (e : Evidence) (a : Key) (t : Table) : Type 0 where
  free : Free e a → Lacks a t → NotedAs e a t
  one : {m : Key} → One e a m → Has a m t → NotedAs e a t
  clash : Clash e a → Has a zero_key t → NotedAs e a t

-- e' says of a just what e says
pub record Agree (e e' : Evidence) (a : Key) : Type 0 where
  pub to : {m : Key} → Says e a m → Says e' a m
  pub from : {m : Key} → Says e' a m → Says e a m

module _ {e e' : Evidence} {a : Key} (g : Agree e e' a) where
  pub free-map : Free e a → Free e' a
  free-map f = record { silent = λ s. f.silent (g.from s) }

  pub one_map : {m : Key} → One e a m → One e' a m
  one_map o = record { says = g.to o.says; only = λ s. o.only (g.from s) }

  pub clash-map : Clash e a → Clash e' a
  clash-map c = record { m = c.m; k = c.k; says = g.to c.says; other = g.to c.other; differ = c.differ }
