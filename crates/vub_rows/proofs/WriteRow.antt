-- The records of the write are a run of its schedule, and memory tracks their history: both by computing.
use Rattle.std.specs.Prelude.{replicate}
use Rattle.std.proofs.Common.{◌≡◌, [], ◌∷◌, refl, inl, inr}
use Rattle.vub_base.specs.declared.request.Shape.TheVariants.{Direct}
use Rattle.vub_base.specs.declared.store.Tag.TheVariants.{SI1, SI2, SI3, T5, SF1, SF2, SP1, SP2, SP3, SP4, SP5, SP6, SP7}
use Rattle.vub_base.specs.declared.store.Area.TheVariants.{M, I}
use Rattle.vub_shared.specs.Bytes as bytes
use Rattle.vub_shared.specs.Bytes.{put}
use Rattle.vub_steps.specs.declared.steps.Phase.TheVariants as phases
use Rattle.vub_steps.specs.declared.readiness.Turn.{Turn}
use Rattle.vub_device.specs.Requests as zero
use Rattle.vub_device.specs.declared.entry.Entry.TheVariants as entries
use Rattle.vub_schedule.specs.declared.types.Event.TheVariants as events
use Rattle.vub_report.specs.declared.items.Item.TheVariants as items
use Rattle.vub_run.specs.Memory.{with_at}
use Rattle.vub_run.specs.Moments.{Moment, opening}
use Rattle.vub_run.specs.Run.{Run, Plays, played, boot, join, ask, guest, collect, turns, drain_choice}
use Rattle.vub_run.specs.Tracking.{TracksAlways}
use Rattle.vub_rows.proofs.Tracked.{undamaged, at_queue_0}
use Rattle.vub_rows.proofs.Turns.{turned_to, Turns, turn_first}
use Rattle.vub_rows.specs.WriteAndRead.{header, sector, answer, write, write_offered, write_served, write_records, schedule_of}

abbrev m0 : Moment
m0 = opening header

abbrev m1 : Moment
m1 = (boot m0).next

abbrev m2 : Moment
m2 = (join m1).next

abbrev m3 : Moment
m3 = (ask header 0 Direct write m2).next

abbrev m4 : Moment
m4 = (guest header 0 16 m3).next

-- after each turn of the drain
abbrev n1 : Moment
n1 = turned_to (put m4.scene.memory 1 0 (replicate 8 0)) m4.scene.past (phases.Start 1) 0 [] [] (λ k. 0) m4

abbrev n2 : Moment
n2 = turned_to (put n1.scene.memory 1 16 (0 ∷ [])) n1.scene.past (phases.Start 2) 0 [] [] (λ k. 0) n1

abbrev n3 : Moment
n3 = turned_to (put n2.scene.memory 1 32 (0 ∷ [])) n2.scene.past (phases.Start 3) 0 [] [] (λ k. 0) n2

abbrev n4 : Moment
n4 = turned_to (put n3.scene.memory 1 48 (0 ∷ [])) n3.scene.past (phases.Start 4) 0 [] [] (λ k. 0) n3

abbrev n5 : Moment
n5 = turned_to (put n4.scene.memory 1 64 (0 ∷ [])) n4.scene.past (phases.Start 5) 0 [] [] (λ k. 0) n4

abbrev n6 : Moment
n6 = turned_to (put n5.scene.memory 1 8 (1 ∷ 0 ∷ 4 ∷ 0 ∷ 0 ∷ 0 ∷ 0 ∷ 0 ∷ [])) n5.scene.past (phases.Start 6) 0 [] [] (λ k. 0) n5

abbrev n7 : Moment
n7 = turned_to n6.scene.memory n6.scene.past (phases.Start 7) 0 [] [] (λ k. 0) n6

abbrev n8 : Moment
n8 = turned_to n7.scene.memory (entries.Start 0 [] ∷ n7.scene.past) phases.Rest 0 [] [] (λ k. 0) n7

abbrev n9 : Moment
n9 = turned_to (put n8.scene.memory 1 24 (replicate 8 0)) n8.scene.past (phases.Fetch 1) 1 [] [] (λ k. 0) n8

abbrev n10 : Moment
n10 = turned_to (put n9.scene.memory 1 16 (1 ∷ [])) (entries.Accept 0 0 ∷ n9.scene.past) phases.Rest 1 [] [] (λ k. 0) n9

abbrev n11 : Moment
n11 = turned_to n10.scene.memory (entries.Act 0 0 0 sector ∷ n10.scene.past) phases.Rest 1 [] [] (with_at (λ k. 0) 0 1) n10

abbrev n12 : Moment
n12 = turned_to (put n11.scene.memory 0 65552 (0 ∷ [])) n11.scene.past phases.Rest 1 [] (0 ∷ []) (with_at (with_at (λ k. 0) 0 1) 0 2) n11

abbrev n13 : Moment
n13 = turned_to (put n12.scene.memory 0 8196 (0 ∷ 0 ∷ 0 ∷ 0 ∷ [])) n12.scene.past (phases.Publish 1) 1 (0 ∷ []) [] (with_at (with_at (λ k. 0) 0 1) 0 2) n12

abbrev n14 : Moment
n14 = turned_to (put n13.scene.memory 0 8200 (1 ∷ 0 ∷ 0 ∷ 0 ∷ [])) n13.scene.past (phases.Publish 2) 1 (0 ∷ []) [] (with_at (with_at (λ k. 0) 0 1) 0 2) n13

abbrev n15 : Moment
n15 = turned_to (put n14.scene.memory 1 22 (0 ∷ 0 ∷ [])) n14.scene.past (phases.Publish 3) 1 (0 ∷ []) [] (with_at (with_at (λ k. 0) 0 1) 0 2) n14

abbrev n16 : Moment
n16 = turned_to (put n15.scene.memory 1 12 (0 ∷ 0 ∷ [])) n15.scene.past (phases.Publish 4) 1 (0 ∷ []) [] (with_at (with_at (λ k. 0) 0 1) 0 2) n15

abbrev n17 : Moment
n17 = turned_to (put n16.scene.memory 0 8194 (1 ∷ 0 ∷ [])) (entries.Publish 0 (answer 0 [] ∷ []) ∷ n16.scene.past) (phases.Publish 5) 1 (0 ∷ []) [] (with_at (with_at (λ k. 0) 0 1) 0 2) n16

abbrev n18 : Moment
n18 = turned_to (put n17.scene.memory 1 16 (0 ∷ [])) n17.scene.past (phases.Publish 6) 1 (0 ∷ []) [] (with_at (with_at (λ k. 0) 0 1) 0 2) n17

abbrev n19 : Moment
n19 = turned_to (put n18.scene.memory 1 14 (1 ∷ 0 ∷ [])) n18.scene.past (phases.Publish 7) 1 (0 ∷ []) [] (with_at (with_at (λ k. 0) 0 1) 0 2) n18

abbrev n20 : Moment
n20 = turned_to n19.scene.memory n19.scene.past phases.Rest 1 [] [] (with_at (with_at (λ k. 0) 0 1) 0 2) n19

abbrev m5 : Moment
m5 = n20

abbrev m6 : Moment
m6 = (collect header 0 m5).next

boots : Plays header m0 events.Boot [] m1
unfolding bytes.word bytes.put zero.zeros
boots = refl

joins : Plays header m1 events.Join [] m2
unfolding bytes.word bytes.put zero.zeros
joins = refl

takes : Plays header m2 (events.Ask 0 Direct write) [] m3
unfolding bytes.word bytes.put zero.zeros
takes = refl

offers : Plays header m3 (events.Guest 0 16) write_offered m4
unfolding bytes.word bytes.put zero.zeros
offers = refl

abbrev choose : Moment → Turn
choose = drain_choice header 0 0

t1 : Turns header choose m4 (items.Store SI1 I 0 (replicate 8 0) ∷ []) n1
unfolding bytes.word bytes.put zero.zeros
t1 = (refl, refl)

t2 : Turns header choose n1 (items.Store SI2 I 16 (0 ∷ []) ∷ []) n2
unfolding bytes.word bytes.put zero.zeros
t2 = (refl, refl)

t3 : Turns header choose n2 (items.Store SI2 I 32 (0 ∷ []) ∷ []) n3
unfolding bytes.word bytes.put zero.zeros
t3 = (refl, refl)

t4 : Turns header choose n3 (items.Store SI2 I 48 (0 ∷ []) ∷ []) n4
unfolding bytes.word bytes.put zero.zeros
t4 = (refl, refl)

t5 : Turns header choose n4 (items.Store SI2 I 64 (0 ∷ []) ∷ []) n5
unfolding bytes.word bytes.put zero.zeros
t5 = (refl, refl)

t6 : Turns header choose n5 (items.Store SI3 I 8 (1 ∷ 0 ∷ 4 ∷ 0 ∷ 0 ∷ 0 ∷ 0 ∷ 0 ∷ []) ∷ []) n6
unfolding bytes.word bytes.put zero.zeros
t6 = (refl, refl)

t7 : Turns header choose n6 (items.Bell 0 ∷ []) n7
unfolding bytes.word bytes.put zero.zeros
t7 = (refl, refl)

t8 : Turns header choose n7 (items.Made (entries.Start 0 []) ∷ []) n8
unfolding bytes.word bytes.put zero.zeros
t8 = (refl, refl)

t9 : Turns header choose n8 (items.Store SF1 I 24 (replicate 8 0) ∷ []) n9
unfolding bytes.word bytes.put zero.zeros
t9 = (refl, refl)

t10 : Turns header choose n9 (items.Store SF2 I 16 (1 ∷ []) ∷ items.Made (entries.Accept 0 0) ∷ []) n10
unfolding bytes.word bytes.put zero.zeros
t10 = (refl, refl)

t11 : Turns header choose n10 (items.Made (entries.Act 0 0 0 sector) ∷ []) n11
unfolding bytes.word bytes.put zero.zeros
t11 = (refl, refl)

t12 : Turns header choose n11 (items.Store T5 M 65552 (0 ∷ []) ∷ []) n12
unfolding bytes.word bytes.put zero.zeros
t12 = (refl, refl)

t13 : Turns header choose n12 (items.Store SP1 M 8196 (0 ∷ 0 ∷ 0 ∷ 0 ∷ []) ∷ []) n13
unfolding bytes.word bytes.put zero.zeros
t13 = (refl, refl)

t14 : Turns header choose n13 (items.Store SP2 M 8200 (1 ∷ 0 ∷ 0 ∷ 0 ∷ []) ∷ []) n14
unfolding bytes.word bytes.put zero.zeros
t14 = (refl, refl)

t15 : Turns header choose n14 (items.Store SP3 I 22 (0 ∷ 0 ∷ []) ∷ []) n15
unfolding bytes.word bytes.put zero.zeros
t15 = (refl, refl)

t16 : Turns header choose n15 (items.Store SP4 I 12 (0 ∷ 0 ∷ []) ∷ []) n16
unfolding bytes.word bytes.put zero.zeros
t16 = (refl, refl)

t17 : Turns header choose n16 (items.Store SP5 M 8194 (1 ∷ 0 ∷ []) ∷ items.Made (entries.Publish 0 (answer 0 [] ∷ [])) ∷ []) n17
unfolding bytes.word bytes.put zero.zeros
t17 = (refl, refl)

t18 : Turns header choose n17 (items.Store SP6 I 16 (0 ∷ []) ∷ []) n18
unfolding bytes.word bytes.put zero.zeros
t18 = (refl, refl)

t19 : Turns header choose n18 (items.Store SP7 I 14 (1 ∷ 0 ∷ []) ∷ []) n19
unfolding bytes.word bytes.put zero.zeros
t19 = (refl, refl)

t20 : Turns header choose n19 (items.Bell 0 ∷ []) n20
unfolding bytes.word bytes.put zero.zeros
t20 = (refl, refl)

-- all of them
all_turns : played write_served m5 ≡ turns 20 choose header 0 m4
all_turns =
    turn_first header choose 19 m4 n1 n20 (items.Store SI1 I 0 (replicate 8 0) ∷ []) _ t1 (
    turn_first header choose 18 n1 n2 n20 (items.Store SI2 I 16 (0 ∷ []) ∷ []) _ t2 (
    turn_first header choose 17 n2 n3 n20 (items.Store SI2 I 32 (0 ∷ []) ∷ []) _ t3 (
    turn_first header choose 16 n3 n4 n20 (items.Store SI2 I 48 (0 ∷ []) ∷ []) _ t4 (
    turn_first header choose 15 n4 n5 n20 (items.Store SI2 I 64 (0 ∷ []) ∷ []) _ t5 (
    turn_first header choose 14 n5 n6 n20 (items.Store SI3 I 8 (1 ∷ 0 ∷ 4 ∷ 0 ∷ 0 ∷ 0 ∷ 0 ∷ 0 ∷ []) ∷ []) _ t6 (
    turn_first header choose 13 n6 n7 n20 (items.Bell 0 ∷ []) _ t7 (
    turn_first header choose 12 n7 n8 n20 (items.Made (entries.Start 0 []) ∷ []) _ t8 (
    turn_first header choose 11 n8 n9 n20 (items.Store SF1 I 24 (replicate 8 0) ∷ []) _ t9 (
    turn_first header choose 10 n9 n10 n20 (items.Store SF2 I 16 (1 ∷ []) ∷ items.Made (entries.Accept 0 0) ∷ []) _ t10 (
    turn_first header choose 9 n10 n11 n20 (items.Made (entries.Act 0 0 0 sector) ∷ []) _ t11 (
    turn_first header choose 8 n11 n12 n20 (items.Store T5 M 65552 (0 ∷ []) ∷ []) _ t12 (
    turn_first header choose 7 n12 n13 n20 (items.Store SP1 M 8196 (0 ∷ 0 ∷ 0 ∷ 0 ∷ []) ∷ []) _ t13 (
    turn_first header choose 6 n13 n14 n20 (items.Store SP2 M 8200 (1 ∷ 0 ∷ 0 ∷ 0 ∷ []) ∷ []) _ t14 (
    turn_first header choose 5 n14 n15 n20 (items.Store SP3 I 22 (0 ∷ 0 ∷ []) ∷ []) _ t15 (
    turn_first header choose 4 n15 n16 n20 (items.Store SP4 I 12 (0 ∷ 0 ∷ []) ∷ []) _ t16 (
    turn_first header choose 3 n16 n17 n20 (items.Store SP5 M 8194 (1 ∷ 0 ∷ []) ∷ items.Made (entries.Publish 0 (answer 0 [] ∷ [])) ∷ []) _ t17 (
    turn_first header choose 2 n17 n18 n20 (items.Store SP6 I 16 (0 ∷ []) ∷ []) _ t18 (
    turn_first header choose 1 n18 n19 n20 (items.Store SP7 I 14 (1 ∷ 0 ∷ []) ∷ []) _ t19 (
    turn_first header choose 0 n19 n20 n20 (items.Bell 0 ∷ []) _ t20 refl)))))))))))))))))))

serves : Plays header m4 (events.Drain 0) write_served m5
unfolding bytes.word bytes.put zero.zeros
serves = inr (t1.0, record { count = 20; made = all_turns; ends = refl })

collects : Plays header m5 (events.Collect 0) (items.Made (entries.Collect 0 0) ∷ []) m6
unfolding bytes.word bytes.put zero.zeros
collects = refl

pub is_run : Run (schedule_of write) write_records
is_run = (refl, (m1, boots, (refl, (m2, joins, (refl, (m3, takes, (refl, (m4, offers, (refl, (m5, serves, (refl, (m6, collects, tt))))))))))))

pub is_tracked : TracksAlways header write_records
unfolding bytes.word bytes.put zero.zeros
is_tracked = (
  tt,
  (
    tt,
    (
      tt,
      (
        -- the offer
        (
          inr (at_queue_0 _ (record { reads = record { undamaged = undamaged _ refl; heads = refl }; sees = refl; waits = refl })),
          (
            inr (at_queue_0 _ (record { reads = record { undamaged = undamaged _ refl; heads = refl }; sees = refl; waits = refl })),
            (
              inr (at_queue_0 _ (record { reads = record { undamaged = undamaged _ refl; heads = refl }; sees = refl; waits = refl })),
              (
                inr (at_queue_0 _ (record { reads = record { undamaged = undamaged _ refl; heads = refl }; sees = refl; waits = refl })),
                (
                  inr (at_queue_0 _ (record { reads = record { undamaged = undamaged _ refl; heads = refl }; sees = refl; waits = refl })),
                  (
                    inr (at_queue_0 _ (record { reads = record { undamaged = undamaged _ refl; heads = refl }; sees = refl; waits = refl })),
                    (
                      inr (at_queue_0 _ (record { reads = record { undamaged = undamaged _ refl; heads = refl }; sees = refl; waits = refl })),
                      (
                        inl tt,
                        (inr (at_queue_0 _ (record { reads = record { undamaged = undamaged _ refl; heads = refl }; sees = refl; waits = refl })), tt),
                      ),
                    ),
                  ),
                ),
              ),
            ),
          ),
        ),
        (
          -- the drain
          (
            inr (at_queue_0 _ (record { reads = record { undamaged = undamaged _ refl; heads = refl }; sees = refl; waits = refl })),
            (
              inr (at_queue_0 _ (record { reads = record { undamaged = undamaged _ refl; heads = refl }; sees = refl; waits = refl })),
              (
                inr (at_queue_0 _ (record { reads = record { undamaged = undamaged _ refl; heads = refl }; sees = refl; waits = refl })),
                (
                  inr (at_queue_0 _ (record { reads = record { undamaged = undamaged _ refl; heads = refl }; sees = refl; waits = refl })),
                  (
                    inr (at_queue_0 _ (record { reads = record { undamaged = undamaged _ refl; heads = refl }; sees = refl; waits = refl })),
                    (
                      inr (at_queue_0 _ (record { reads = record { undamaged = undamaged _ refl; heads = refl }; sees = refl; waits = refl })),
                      (
                        inr (at_queue_0 _ (record { reads = record { undamaged = undamaged _ refl; heads = refl }; sees = refl; waits = refl })),
                        (
                          inr (at_queue_0 _ (record { reads = record { undamaged = undamaged _ refl; heads = refl }; sees = refl; waits = refl })),
                          (
                            inr (at_queue_0 _ (record { reads = record { undamaged = undamaged _ refl; heads = refl }; sees = refl; waits = refl })),
                            (
                              inl tt,
                              (
                                inr (at_queue_0 _ (record { reads = record { undamaged = undamaged _ refl; heads = refl }; sees = refl; waits = refl })),
                                (
                                  inr (at_queue_0 _ (record { reads = record { undamaged = undamaged _ refl; heads = refl }; sees = refl; waits = refl })),
                                  (
                                    inr (at_queue_0 _ (record { reads = record { undamaged = undamaged _ refl; heads = refl }; sees = refl; waits = refl })),
                                    (
                                      inr (at_queue_0 _ (record { reads = record { undamaged = undamaged _ refl; heads = refl }; sees = refl; waits = refl })),
                                      (
                                        inr (at_queue_0 _ (record { reads = record { undamaged = undamaged _ refl; heads = refl }; sees = refl; waits = refl })),
                                        (
                                          inr (at_queue_0 _ (record { reads = record { undamaged = undamaged _ refl; heads = refl }; sees = refl; waits = refl })),
                                          (
                                            inr (at_queue_0 _ (record { reads = record { undamaged = undamaged _ refl; heads = refl }; sees = refl; waits = refl })),
                                            (
                                              inl tt,
                                              (
                                                inr (at_queue_0 _ (record { reads = record { undamaged = undamaged _ refl; heads = refl }; sees = refl; waits = refl })),
                                                (
                                                  inr (at_queue_0 _ (record { reads = record { undamaged = undamaged _ refl; heads = refl }; sees = refl; waits = refl })),
                                                  (
                                                    inr (at_queue_0 _ (record { reads = record { undamaged = undamaged _ refl; heads = refl }; sees = refl; waits = refl })),
                                                    (inr (at_queue_0 _ (record { reads = record { undamaged = undamaged _ refl; heads = refl }; sees = refl; waits = refl })), tt),
                                                  ),
                                                ),
                                              ),
                                            ),
                                          ),
                                        ),
                                      ),
                                    ),
                                  ),
                                ),
                              ),
                            ),
                          ),
                        ),
                      ),
                    ),
                  ),
                ),
              ),
            ),
          ),
          (
            -- the collection
            (inr (at_queue_0 _ (record { reads = record { undamaged = undamaged _ refl; heads = refl }; sees = refl; waits = refl })), tt),
            tt,
          ),
        ),
      ),
    ),
  ),
)
