mod Unstepped
