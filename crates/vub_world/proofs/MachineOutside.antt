-- What the backend of a machine sees: memory, disk and bell.
use Rattle.std.specs.Prelude.{Some}
use Rattle.vub_shared.specs.Watched.{bytes_in, stores_in, names_in, handed_in, sizes_in, faults_in}
use Rattle.vub_shared.specs.declared.watched_shared.WatchedShared.{WatchedShared}
use Rattle.vub_memdisk.specs.MemDisks.{values_of, stable_of, capacity_of}
use Rattle.vub_memdisk.specs.declared.mem_disk.MemDisk.{MemDisk}
use Rattle.vub_queue.specs.Turned.{Outside}
use Rattle.vub_world.specs.declared.bell.WatchedBell.{WatchedBell}
use Rattle.vub_world.specs.Bells.{bell_in}
use Rattle.vub_world.specs.Bells.{faults_in as bell_faults}

abbrev pub outside_of : WatchedShared → MemDisk → WatchedBell → Outside
outside_of w d b = record {
  bytes = Some (bytes_in w);
  trail = Some (stores_in w);
  names = Some (names_in w);
  handed = handed_in w;
  sizes = sizes_in w;
  memory_faults = faults_in w;
  values = Some (values_of d);
  stable = Some (stable_of d);
  capacity = capacity_of d;
  disk_faults = 0;
  bells = Some (bell_in b);
  bell_faults = bell_faults b;
}
