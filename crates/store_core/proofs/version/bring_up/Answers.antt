use Rattle.std.proofs.Common.{◌≡◌, inl, inr, Err, pos, refl, rules}
use Rattle.store_core.proofs.MakeLemmas.{always}
use Rattle.store_tables.specs.Contents.{first_contents_of}
use Rattle.store_tables.proofs.Lasting.{on}
use Rattle.store_tables.proofs.ReadingLemmas.{if_err}
use Rattle.store_tables.proofs.StepLemmas.{looks_beside}
use Rattle.store_core.proofs.RunLemmas.{and_then, blames_then, looks_on, looks_then, no_row}
use Rattle.store_core.proofs.version.bring_up.Goals as goal

pub returns-in_err-read_version-clause-mismatch : goal.returns-in_err-read_version-clause-mismatch
returns-in_err-read_version-clause-mismatch g c =
    let is : c.from_residual.result ≡ Err c.in_err-read_version.field-0.0 = search rules in
    rw is (λ wrong has clean.
    inl (c.in_err-read_version.ensures.mismatch.1 wrong has clean).1)

pub returns-in-None-clause-others : goal.returns-in-None-clause-others
returns-in-None-clause-others g c = record {
  over = λ has clean. always c.add_version.result (inl (rw c.in-None.is at
      (c.in_ok-read_version.ensures.shown has (c.add_version.ensures.runs.clean clean))));
  alone = λ has clean first row within. absurd (no_row (rw c.in-None.is at
      (c.in_ok-read_version.ensures.shown has (c.add_version.ensures.runs.clean clean))) row
      within);
}

pub returns-in-Some-eq1-clause-others : goal.returns-in-Some-eq1-clause-others
returns-in-Some-eq1-clause-others g c =
    let one : c.in-Some-eq1.field-0 ≡ pos 1 = search rules in
    record {
      over = λ has clean. always c.migrate.result (inr (
        1,
        rw (c.in-Some-eq1.is, one) at
            (c.in_ok-read_version.ensures.shown has (c.migrate.ensures.on.clean clean)),
        inl refl,
      ));
      alone = λ has clean first row within. absurd (first (rw (c.in-Some-eq1.is, one) at
          (c.in_ok-read_version.ensures.shown has (c.migrate.ensures.on.clean clean))));
    }

pub returns-in-Some-eq2-clause-others : goal.returns-in-Some-eq2-clause-others
returns-in-Some-eq2-clause-others g c =
    let two : c.in-Some-eq2.field-0 ≡ pos 2 = search rules in
    record {
      over = λ has clean. inr (
        2,
        rw (c.in-Some-eq2.is, two) at
            (c.in_ok-read_version.ensures.shown has clean),
        inr refl,
      );
      alone = λ has clean first row within. (c.in_ok-read_version.ensures.looks.same clean).1;
    }

-- where there is a version, it was read
pub returns-in-None-clause-on : goal.returns-in-None-clause-on
returns-in-None-clause-on g c =
    let added = c.add_version.ensures.runs in
    let read = c.in_ok-read_version.ensures.looks in
    record {
      holds = λ d holds. and_then c.add_version.result (λ goes. (
        d,
        λ clean live.
            let none = c.in-None.is in
            let some = c.in_ok-read_version.ensures.one d holds (added.clean clean) in
            absurd (cc),
      )) c.add_version.ensures.goes_on;
      keeps = search rules;
      goes_on = search rules;
      clean = search rules;
      lasts = search (rules, on);
    }

pub returns-in-Some-eq1-clause-brings : goal.returns-in-Some-eq1-clause-brings
returns-in-Some-eq1-clause-brings g c desk is due holds =
    c.migrate.ensures.brings desk is due
    (c.in_ok-read_version.ensures.looks.makes (first_contents_of due desk) holds)

pub returns-in-Some-eq1-clause-on : goal.returns-in-Some-eq1-clause-on
returns-in-Some-eq1-clause-on g c =
    looks_then c.in_ok-read_version.ensures.looks c.migrate.ensures.on

pub returns-in-Some-eq1-clause-mismatch : goal.returns-in-Some-eq1-clause-mismatch
returns-in-Some-eq1-clause-mismatch g c =
    let first : c.in-Some-eq1.field-0 ≡ pos 1 = search rules in
    let looks = c.in_ok-read_version.ensures.looks in
    let on = c.migrate.ensures.on in
    if_err c.migrate.result (λ e why wrong has clean.
    let of = c.in_ok-read_version.ensures.shown has (on.clean clean) in
    inr (rw (c.in-Some-eq1.is, first) at of, (why wrong has clean).1))
    (blames_then (looks_on looks) (looks_beside looks) on c.migrate.ensures.blames).mismatch

pub returns-in-Some-eq2-clause-on : goal.returns-in-Some-eq2-clause-on
returns-in-Some-eq2-clause-on g c =
    let runs = looks_on c.in_ok-read_version.ensures.looks in assumption
