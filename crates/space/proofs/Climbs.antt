-- Working through the levels gathers the routes: level k at p is made of the routes from p whose capped distance is k, and is at or above each of them.
use Rattle.std.proofs.Common.{◌≡◌, ℕ, zero, suc, ◌+◌, ◌*◌, ◌/◌, ◌%◌, ◌<◌, ◌≤◌, min, Bool, true, false, cond, List, [], ◌∷◌, length, set, fold, sym, refl, ap, ◌∙◌, subst, arith, length-set, get_or-set_other, get_or-set_same}
use mathlib.Core.List.Memᴰ
use mathlib.Core.List.{Memᴰ}
use native.Mathlib.Decide.{ℕ_discrete, dec_le}
use Rattle.std.proofs.lemmas.Bool.Decides.{nat_tests}
use lib.Arith.{digits_div, digits_mod}
use Rattle.network.specs.declared.pipe.Pipe.{Pipe}
use Rattle.verdict.specs.Algebra.{Ops, Laws, Below}
use Rattle.network.specs.Routes.{Ends, Joined, Leads}
use Rattle.space.specs.Along.{along}
use Rattle.network.specs.Measures.{Extend, Measures}
use Rattle.network.specs.Routes.{Stands, stands, distance}
use Rattle.space.specs.Levels.{val, at, lifted, pushed, passed, passes, climbed}
use Rattle.space.proofs.Made.{Made, Made.one, Made.none, Made.both, Gathers}
use Rattle.verdict.proofs.Order.{below_refl, below_trans, join_left, join_right, meet_mono, meet_below_right}
use Rattle.space.proofs.Made.{made_meet}
use Rattle.space.proofs.Rooms.{inside}
use Rattle.space.proofs.Cuts.{Cuttable, Reaches, reaches_none, reaches_more, reaches_all, joined_mem}

-- the test and the fact
stands_yes : (t : ℕ) (e : Pipe) → stands t e ≡ true → Stands t e
stands_yes t e h = record { opened = grind (arith, nat_tests); closes = grind (arith, nat_tests) }

stands_so : (t : ℕ) (e : Pipe) → Stands t e → stands t e ≡ true
stands_so t e h = grind (arith, nat_tests)

module _ {x : Extend} (ms : Measures x) (top : ℕ) (small : top ≤ 65535) where
  -- the level of a route
  abbrev pub level : List Pipe → ℕ
  level π = min (distance x π) top

  distance_fits : (π : List Pipe) → distance x π ≤ 65535
  distance_fits [] = omega arith
  distance_fits (e ∷ π) = ms.fits _ e (distance_fits π)

  -- capping commutes with the measure, since a measure never shrinks a distance
  pub level_more : (e : Pipe) (π : List Pipe) → min (x (level π) e) top ≡ level (e ∷ π)
  level_more e π = go (dec_le (distance x π) top)
    where
      go : Dec (distance x π ≤ top) → min (x (level π) e) top ≡ level (e ∷ π)
      go (yes h) = let same : level π ≡ distance x π = omega arith in ap (λ n. min (x n e) top) same
      go (no h) = let same : level π ≡ top = omega arith in ap (λ n. min (x n e) top) same ∙ omega (arith, ms.grows top e small, ms.grows (distance x π) e (distance_fits π))

  pub level_rises : (e : Pipe) (π : List Pipe) → level π ≤ level (e ∷ π)
  level_rises e π = omega (arith, ms.grows (distance x π) e (distance_fits π))

-- two numbers of a level and a place
node_same : (n k h p q : ℕ) → p < n → q < n → k * n + p ≡ h * n + q → (k ≡ h) × (p ≡ q)
node_same n k h p q hp hq e = (sym (digits_div k hp) ∙ ap (λ i. i / n) e ∙ digits_div h hq, sym (digits_mod k hp) ∙ ap (λ i. i % n) e ∙ digits_mod h hq)

module _ {V : Type 0} {o : Ops V} (ls : Laws o) {x : Extend} (ms : Measures x) (t top : ℕ) (small : top ≤ 65535) (pipes : List Pipe) (through : List V) (goal : ℕ → V) where
  abbrev places : ℕ
  places = length through

  -- a route from p on level k
  pub record OnLevel (p k : ℕ) : Type 0 where
    pub over : List Pipe
    pub leads : Leads (Stands t) pipes p over
    pub on : level ms top small over ≡ k

  abbrev pub worth : (p k : ℕ) → OnLevel p k → V
  worth p k r = along o (val o through) goal p r.over

  abbrev pub AllMade : List V → Type 0
  AllMade xs = (k p : ℕ) → p < places → Made o (OnLevel p k) (worth p k) (at o places xs k p)

  -- room for every level
  abbrev pub Long : ℕ → Type 0
  Long n = (top + 1) * places ≤ n

  -- what pushing some pipes from level d does
  record Pushed (d : ℕ) (es : List Pipe) (old new : List V) : Type 0 where
    long : length new ≡ length old
    grows : (i : ℕ) → Below o (val o old i) (val o new i)
    passes : (e : Pipe) → Memᴰ e es → Stands t e → Below o (o.meet (val o through e.from) (at o places old d e.to)) (at o places new (min (x d e) top) e.from)
    made : AllMade old → AllMade new

  pushed_none : (d : ℕ) (xs : List V) → Pushed d [] xs xs
  pushed_none d xs = record { long = refl; grows = λ i. below_refl ls _; passes = λ e m h. absurd (Memᴰ.not-nil m); made = λ g. g }

  made_back : (d : ℕ) (e : Pipe) → Memᴰ e pipes → Stands t e → {v : V} → Made o (OnLevel e.to d) (worth e.to d) v → Made o (OnLevel e.from (min (x d e) top)) (worth e.from (min (x d e) top)) (o.meet (val o through e.from) v)
  made_back d e m h = made_meet ls (val o through e.from) (λ r. one (record { over = e ∷ r.over; leads = (m, h, refl, r.leads); on = sym (level_more ms top small e r.over) ∙ ap (λ n. min (x n e) top) r.on }) refl)

  module _ (joined : Joined places pipes) where
    ends : (e : Pipe) → Memᴰ e pipes → Ends places e
    ends = joined_mem pipes joined

    -- one pipe that stands
    pushed_lift : (d : ℕ) (e : Pipe) (old : List V) → Long (length old) → Memᴰ e pipes → Stands t e → Pushed d (e ∷ []) old (lifted o through d (min (x d e) top) old e)
    pushed_lift d e old room m h = record {
      long = length-set _ _ _;
      grows = λ i. flat i (λ v. Below o (val o old i) v) (λ eq. rw eq (join_left ls _ _)) (below_refl ls _);
      passes = λ f k hf. rw (Memᴰ.eq_of_singleton k) (rw same (join_right ls _ _));
      made = λ g k p hp. flat (k * places + p) (Made o (OnLevel p k) (worth p k)) (λ eq. let two = node_same _ _ _ _ _ hp (ends e m).near eq in rw (two.0, two.1) (both _ _ (g _ _ (ends e m).near) (made_back d e m h (g _ _ (ends e m).far)) refl)) (g k p hp);
    }
      where
        here : ℕ
        here = min (x d e) top * places + e.from

        gain : V
        gain = o.join (at o places old (min (x d e) top) e.from) (o.meet (val o through e.from) (at o places old d e.to))

        near : here < length old
        near = inside (min (x d e) top) e.from (top + 1) places (length old) (omega arith) (ends e m).near room

        same : val o (set old here gain) here ≡ gain
        same = get_or-set_same old here gain o.bottom near

        -- what stands at i after it
        flat : (i : ℕ) (P : V → Type 0) → (i ≡ here → P gain) → P (val o old i) → P (val o (set old here gain) i)
        flat i P at_here other = go (ℕ_discrete i here)
          where
            go : Dec (i ≡ here) → P (val o (set old here gain) i)
            go (yes eq) = subst P (sym (ap (val o (set old here gain)) eq ∙ same)) (at_here eq)
            go (no ne) = subst P (sym (get_or-set_other old here i gain o.bottom ne)) other

    -- one pipe
    pushed_one : (d : ℕ) (e : Pipe) (old : List V) → Long (length old) → Memᴰ e pipes → Pushed d (e ∷ []) old (pushed o through x t top d old e)
    pushed_one d e old room m = go (stands t e) refl
      where
        go : (b : Bool) → stands t e ≡ b → Pushed d (e ∷ []) old (cond b (lifted o through d (min (x d e) top) old e) old)
        go true eq = pushed_lift d e old room m (stands_yes t e eq)
        go false eq = record {
          long = refl;
          grows = λ i. below_refl ls _;
          passes = λ f k hf. absurd (let two : stands t e ≡ true = rw (Memᴰ.eq_of_singleton k) at (stands_so t f hf) in cc);
          made = λ g. g;
        }

    -- one pipe, then others
    pushed_more : (d : ℕ) (e : Pipe) (es : List Pipe) {old mid new : List V} → Pushed d (e ∷ []) old mid → Pushed d es mid new → Pushed d (e ∷ es) old new
    pushed_more d e es {old} {mid} {new} a b = record {
      long = b.long ∙ a.long;
      grows = λ i. below_trans ls (a.grows i) (b.grows i);
      passes = by;
      made = λ g. b.made (a.made g);
    }
      where
        by : (f : Pipe) → Memᴰ f (e ∷ es) → Stands t f → Below o (o.meet (val o through f.from) (at o places old d f.to)) (at o places new (min (x d f) top) f.from)
        by f (Memᴰ.head eq) h = below_trans ls (a.passes f (Memᴰ.head eq) h) (b.grows _)
        by f (Memᴰ.tail m) h = below_trans ls (meet_mono ls (below_refl ls _) (a.grows _)) (b.passes f m h)

    -- some pipes
    pushed_all : (d : ℕ) (es : List Pipe) (old : List V) → Long (length old) → ((e : Pipe) → Memᴰ e es → Memᴰ e pipes) → Pushed d es old (fold (pushed o through x t top d) old es)
    pushed_all d [] old room among = pushed_none d old
    pushed_all d (e ∷ es) old room among =
        let first = pushed_one d e old room (among e (Memᴰ.head refl)) in
        pushed_more d e es first (pushed_all d es _ (rw first.long room) (λ f m. among f (Memᴰ.tail m)))

    -- a pass
    pass : (d : ℕ) (old : List V) → Long (length old) → Pushed d pipes old (passed o through x t top pipes d old)
    pass d old room = pushed_all d pipes old room (λ e m. m)

    -- a pipe that keeps level d
    abbrev Keeps : ℕ → Pipe → Type 0
    Keeps d e = Stands t e × (min (x d e) top ≡ d)

    module _ (d : ℕ) (old : List V) where
      abbrev value : ℕ → List Pipe → V
      value = along o (val o through) (at o places old d)

      cuttable : Cuttable (Below o) value
      cuttable = record { same = below_refl ls; chain = below_trans ls; front = λ p e π. meet_below_right ls _ _ }

      -- the levels after n passes at level d
      record Passing (n : ℕ) (new : List V) : Type 0 where
        long : length new ≡ length old
        grows : (i : ℕ) → Below o (val o old i) (val o new i)
        made : AllMade old → AllMade new
        reaches : Reaches (Keeps d) pipes (Below o) value n (at o places new d)

      passing_none : Passing 0 old
      passing_none = record {
        long = refl;
        grows = λ i. below_refl ls _;
        made = λ g. g;
        reaches = reaches_none (Keeps d) pipes (Below o) value cuttable (at o places old d) (λ p. below_refl ls _);
      }

      passing_more : (n : ℕ) {mid new : List V} → Pushed d pipes mid new → Passing n mid → Passing (suc n) new
      passing_more n {mid} {new} a b = record {
        long = a.long ∙ b.long;
        grows = λ i. below_trans ls (b.grows i) (a.grows i);
        made = λ g. a.made (b.made g);
        reaches = reaches_more (Keeps d) pipes (Below o) value cuttable n (at o places mid d) (at o places new d) (λ p. below_trans ls (b.grows _) (a.grows _)) brings b.reaches;
      }
        where
          brings : (p : ℕ) (e : Pipe) (π : List Pipe) → Leads (Keeps d) pipes p (e ∷ π) → Below o (value e.to π) (at o places mid d e.to) → Below o (value p (e ∷ π)) (at o places new d p)
          brings p e π l h = below_trans ls (meet_mono ls (below_refl ls _) h) (rw (l.1.1, l.2) at (a.passes e l.0 l.1.0))

      passing : (n : ℕ) → Long (length old) → Passing n (passes o through x t top pipes d n old)
      passing zero room = passing_none
      passing (suc n) room = let before = passing n room in passing_more n (pass d _ (rw before.long room)) before

    -- the routes that are taken in once the levels below d are worked through
    abbrev Early : ℕ → List Pipe → Type 0
    Early d [] = Unit {0}
    Early d (e ∷ π) = level ms top small π < d

    abbrev Done : ℕ → List V → Type 0
    Done d xs = (p : ℕ) → p < places → (π : List Pipe) → Leads (Stands t) pipes p π → Early d π → Below o (along o (val o through) goal p π) (at o places xs (level ms top small π) p)

    -- a route on level d: its front keeps the level, and what is left has come up from below
    record Front (d : ℕ) (xs : List V) (p : ℕ) (v : V) : Type 0 where
      front : List Pipe
      leads : Leads (Keeps d) pipes p front
      less : Below o v (along o (val o through) (at o places xs d) p front)

    split : (d : ℕ) (xs : List V) → Done d xs → (p : ℕ) → p < places → (π : List Pipe) → Leads (Stands t) pipes p π → level ms top small π ≡ d → Front d xs p (along o (val o through) goal p π)
    split d xs done p hp [] l on = record { front = []; leads = tt; less = rw on at (done p hp [] tt tt) }
    split d xs done p hp (e ∷ π) l on = go (ℕ_discrete (level ms top small π) d) (split d xs done e.to (ends e l.0).far π l.3)
      where
        go : Dec (level ms top small π ≡ d) → (level ms top small π ≡ d → Front d xs e.to (along o (val o through) goal e.to π)) → Front d xs p (along o (val o through) goal p (e ∷ π))
        go (yes eq) rest =
            let f = rest eq in
            record { front = e ∷ f.front; leads = (l.0, (l.1, ap (λ k. min (x k e) top) (sym eq) ∙ level_more ms top small e π ∙ on), l.2, f.leads); less = meet_mono ls (below_refl ls _) f.less }
        go (no ne) rest = record { front = []; leads = tt; less = rw on at (done p hp (e ∷ π) l (omega (arith, level_rises ms top small e π))) }

    -- one level more
    done_more : (d : ℕ) (xs : List V) → Long (length xs) → Done d xs → Done (suc d) (passes o through x t top pipes d (suc places) xs)
    done_more d xs room done p hp [] l early = below_trans ls (done p hp [] l tt) ((passing d xs (suc places) room).grows _)
    done_more d xs room done p hp (e ∷ π) l early = go (ℕ_discrete (level ms top small π) d)
      where
        mid : List V
        mid = passes o through x t top pipes d places xs

        new : List V
        new = passes o through x t top pipes d (suc places) xs

        settled : Passing d xs places mid
        settled = passing d xs places room

        last : Pushed d pipes mid new
        last = pass d mid (rw settled.long room)

        go : Dec (level ms top small π ≡ d) → Below o (along o (val o through) goal p (e ∷ π)) (at o places new (level ms top small (e ∷ π)) p)
        go (yes eq) =
            let f = split d xs done e.to (ends e l.0).far π l.3 eq in
            let far : Below o (along o (val o through) goal e.to π) (at o places mid d e.to) = below_trans ls f.less (reaches_all (Keeps d) pipes (Below o) (value d xs) (cuttable d xs) places places (omega arith) joined (at o places mid d) settled.reaches e.to f.front f.leads) in
            let more : min (x d e) top ≡ level ms top small (e ∷ π) = ap (λ k. min (x k e) top) (sym eq) ∙ level_more ms top small e π in
            rw (← l.2) (below_trans ls (meet_mono ls (below_refl ls _) far) (rw more at (last.passes e l.0 l.1)))
        go (no ne) = below_trans ls (done p hp (e ∷ π) l (omega arith)) ((passing d xs (suc places) room).grows _)

    -- how the levels start
    pub record Starts (xs : List V) : Type 0 where
      pub room : Long (length xs)
      pub first : (p : ℕ) → p < places → at o places xs 0 p ≡ goal p
      pub others : (k p : ℕ) → p < places → at o places xs (suc k) p ≡ o.bottom

    record Climbing (n : ℕ) (xs : List V) : Type 0 where
      room : Long (length xs)
      made : AllMade xs
      done : Done n xs

    climbing_none : (xs : List V) → Starts xs → Climbing 0 xs
    climbing_none xs s = record {
      room = s.room;
      made = by;
      done = from;
    }
      where
        by : (k p : ℕ) → p < places → Made o (OnLevel p k) (worth p k) (at o places xs k p)
        by zero p hp = one (record { over = []; leads = tt; on = omega arith }) (s.first p hp)
        by (suc k) p hp = none (s.others k p hp)

        from : (p : ℕ) → p < places → (π : List Pipe) → Leads (Stands t) pipes p π → Early 0 π → Below o (along o (val o through) goal p π) (at o places xs (level ms top small π) p)
        from p hp [] l early = let zeroth : level ms top small [] ≡ 0 = omega arith in rw zeroth (rw (s.first p hp) (below_refl ls _))
        from p hp (e ∷ π) l early = absurd (omega arith)

    climbing_more : (d : ℕ) (xs : List V) → Climbing d xs → Climbing (suc d) (passes o through x t top pipes d (suc places) xs)
    climbing_more d xs c =
        let p = passing d xs (suc places) c.room in
        record { room = rw p.long c.room; made = p.made c.made; done = done_more d xs c.room c.done }

    climbing : (n : ℕ) (xs : List V) → Starts xs → Climbing n (climbed o through x t top pipes n xs)
    climbing zero xs s = climbing_none xs s
    climbing (suc d) xs s = climbing_more d _ (climbing d xs s)

    early_on : (n : ℕ) (π : List Pipe) → level ms top small π < n → Early n π
    early_on n [] h = tt
    early_on n (e ∷ π) h = omega (arith, level_rises ms top small e π)

    -- each level that is worked through gathers its routes
    pub gathers : (n : ℕ) (xs : List V) → Starts xs → (k p : ℕ) → k < n → p < places → Gathers o (OnLevel p k) (worth p k) (at o places (climbed o through x t top pipes n xs) k p)
    gathers n xs s k p hk hp =
        let c = climbing n xs s in
        record {
          made = c.made k p hp;
          above = λ r. rw r.on at (c.done p hp r.over r.leads (early_on n r.over (let e = r.on in omega arith)));
        }
