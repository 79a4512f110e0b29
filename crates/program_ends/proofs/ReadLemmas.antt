-- How many reads a run needs, by what it has read; and a writer that keeps what it took.
use Rattle.std.proofs.Common.{◌≢◌, ◌∙◌, ◌+◌, ◌≤◌, ℕ, List, [], ◌++◌, length, length-append, length-take-le, take, Option, Some, None, ap, arith}
use Rattle.std.specs.Prelude.{IfSome}
use Rattle.std.specs.Io.KnownBytes.{Appends, Consumes, Keeps}
use Rattle.std.proofs.KnownBytes.{Consumes-trans}
use Rattle.program_ends.specs.Reads.{HasRead}

-- a read that gives some bytes makes them one more at least
pub HasRead-more : {n : ℕ} {before mid after : Option (List ℕ)} (taken : ℕ) (buf : List ℕ) → HasRead n before mid → Consumes mid after (take taken buf) → taken ≤ length buf → taken ≢ 0
    → HasRead (n + 1) before after
HasRead-more {n} {before} {mid} {after} taken buf p consumes bound some = record {
  read = p.read ++ take taken buf;
  consumes = Consumes-trans before mid after p.read (take taken buf) p.consumes consumes;
  many = omega (arith, p.many, length-append p.read (take taken buf), length-take-le taken buf bound, some);
}

-- so what there was to read is at least so long
pub HasRead-text : {n : ℕ} {before after : Option (List ℕ)} → HasRead n before after → IfSome before (λ text. n ≤ length text)
HasRead-text {before = None} p = tt
HasRead-text {before = Some text} {after = None} p = absurd p.consumes
HasRead-text {before = Some text} {after = Some rest} p = omega (arith, p.many, ap length p.consumes, length-append p.read rest)

-- each read but the last gave a byte
pub HasRead-reads : (n r : ℕ) (before after : Option (List ℕ)) → HasRead n before after → r ≤ n + 1 → IfSome before (λ text. r ≤ length text + 1)
HasRead-reads n r None after p h = tt
HasRead-reads n r (Some text) None p h = absurd p.consumes
HasRead-reads n r (Some text) (Some rest) p h = omega (arith, h, p.many, ap length p.consumes, length-append p.read rest)

-- what a writer took it still has
pub Appends-kept : (a b c : Option (List ℕ)) (t : List ℕ) → Appends a b t → Keeps b c → Appends a c t
Appends-kept None b c t p k = tt
Appends-kept (Some xs) None c t p k = absurd (p)
Appends-kept (Some xs) (Some ys) None t p k = absurd (k)
Appends-kept (Some xs) (Some ys) (Some zs) t p k = k ∙ p
