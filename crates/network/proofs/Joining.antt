-- Every pipe of a list joins two places.
use Rattle.std.proofs.Common.{◌≡◌, ℕ, zero, suc, true, ◌&&◌, ltb, List, [], ◌∷◌, ◌++◌, arith, ltb-true, lt-ltb}
use Rattle.std.proofs.lemmas.Bool.{and_parts, and_from}
use Rattle.network.specs.declared.pipe.Pipe.{Pipe}
use Rattle.network.specs.Routes.{Ends, Joined, all_join}

-- the test and the fact
pub all_joined : (places : ℕ) (pipes : List Pipe) → all_join places pipes ≡ true → Joined places pipes
all_joined places [] e i d lt = absurd (omega arith)
all_joined places (p ∷ ps) e zero d lt =
    let ends = and_parts (ltb p.from places) (ltb p.to places) (and_parts (ltb p.from places && ltb p.to places) _ e).0 in
    record { near = ltb-true _ _ ends.0; far = ltb-true _ _ ends.1 }
all_joined places (p ∷ ps) e (suc i) d lt =
    all_joined places ps (and_parts (ltb p.from places && ltb p.to places) _ e).1 i d (omega arith)

-- one pipe more
pub all_join_push : (places : ℕ) (pipes : List Pipe) (e : Pipe) → all_join places pipes ≡ true → Ends places e → all_join places (pipes ++ e ∷ []) ≡ true
all_join_push places [] e all ends =
    let near = lt-ltb e.from places ends.near in
    let far = lt-ltb e.to places ends.far in
    rw (near, far)
all_join_push places (p ∷ ps) e all ends =
    let parts = and_parts (ltb p.from places && ltb p.to places) _ all in
    and_from (ltb p.from places && ltb p.to places) _ parts.0 (all_join_push places ps e parts.1 ends)
